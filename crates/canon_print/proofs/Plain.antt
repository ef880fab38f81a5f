-- Names are printed as they are.
use Rattle.std.proofs.Common.{◌≡◌, ℕ, suc, List, [], ◌∷◌, ◌++◌, true, refl, ap, ◌∙◌, arith}
use Rattle.std.specs.List.{AllPass}
use Rattle.std.proofs.lemmas.Bool.Decides.{nat_tests}
use Rattle.dt_base.specs.names.Grammar.{NameText, is_name_byte}
use Rattle.json_tree.specs.Printing.{escaped_byte, escaped}

plain_byte : (b : ℕ) → is_name_byte b ≡ true → escaped_byte b ≡ b ∷ []
plain_byte b h = grind (arith, nat_tests)

plain_bytes : (bytes : List ℕ) → AllPass is_name_byte bytes → escaped bytes ≡ bytes
plain_bytes [] each = refl
plain_bytes (b ∷ bytes) each =
    ap (λ e. e ++ escaped bytes) (plain_byte b (each 0 0 (omega arith)))
    ∙ ap (λ e. b ∷ e) (plain_bytes bytes (λ i d within. each (suc i) d (omega (arith, within))))

pub plain_name : (bytes : List ℕ) → NameText bytes → escaped bytes ≡ bytes
plain_name bytes name = plain_bytes bytes name.segment.each

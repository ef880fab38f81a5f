-- Names are ASCII.
use Rattle.std.proofs.Common.{◌≡◌, ℕ, ◌<◌, ◌≤◌, List, true, length, get_or, lit<, ⊎_elim, sym, subst, arith}
use Rattle.std.specs.Prelude.{nat_lt}
use Rattle.std.specs.List.{AllPass}
use Rattle.std.specs.Str.{IsUtf8}
use Rattle.std.proofs.lemmas.Bool.{cases_Bool}
use Rattle.std.proofs.lemmas.List.{get_or_past}
use borrow.Author.Tests.{ltb-true}
use Rattle.std.proofs.lemmas.Bool.Decides.{nat_tests}
use Rattle.std.proofs.lemmas.Str.{IsUtf8-from_ascii}
use Rattle.dt_base.specs.names.Grammar.{NameText, is_name_byte}

name_byte_small : (b : ℕ) → is_name_byte b ≡ true → b < 128
name_byte_small b h = grind (arith, nat_tests)

small_at : (bytes : List ℕ) (i : ℕ) → AllPass is_name_byte bytes → get_or bytes i 0 < 128
small_at bytes i each =
    ⊎_elim
    (λ t. name_byte_small (get_or bytes i 0) (each i 0 (ltb-true i (length bytes) t)))
    (λ t. let past : length bytes ≤ i = grind (arith, nat_tests) in subst (λ n. n < 128) (sym (get_or_past bytes i 0 past)) (lit< tt))
    (cases_Bool (nat_lt i (length bytes)))

pub name_utf8 : (bytes : List ℕ) → NameText bytes → IsUtf8 bytes
name_utf8 bytes h = IsUtf8-from_ascii bytes (λ i. small_at bytes i h.segment.each)

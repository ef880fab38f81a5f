-- Words that are names, so far.
use Rattle.std.proofs.Common.{◌≡◌, ℕ, zero, suc, ◌+◌, ◌<◌, List, [], ◌∷◌, ◌++◌, false, String, length, take, map, get_or, sym, ap, subst, ◌∙◌, arith}
use Rattle.std.specs.Prelude.{string_bytes, IsTrue, ◌↔◌}
use Rattle.std.specs.List.{AllByRecursion}
use Rattle.std.proofs.lemmas.List.{take_more, map-append}
use Rattle.std.specs.declared.alloc.Global.{Global}
use Rattle.dtdl_cmd.specs.Words.{IsDocumentName}
use Rattle.documents.proofs.Firsts.{all_more}

pub more_names : (words : List (String Global)) (k : ℕ) (word : String Global) → k < length words → word ≡ get_or words k word → AllByRecursion IsDocumentName (map string_bytes (take k words)) → IsDocumentName (string_bytes word)
    → AllByRecursion IsDocumentName (map string_bytes (take (k + 1) words))
more_names words k word within is all one =
    let front : take (k + 1) words ≡ take k words ++ word ∷ [] = take_more words k word within ∙ ap (λ (w : String Global). take k words ++ w ∷ []) (sym is) in
    rw (front, map-append string_bytes (take k words) (word ∷ [])) (all_more IsDocumentName (map string_bytes (take k words)) (string_bytes word) all one)

pub name_at : (words : List (String Global)) (k : ℕ) (word : String Global) → k < length words → word ≡ get_or words k word → AllByRecursion IsDocumentName (map string_bytes words) → IsDocumentName (string_bytes word)
name_at [] k word within is all = absurd (omega (arith, within))
name_at (w ∷ ws) zero word within is all = subst (λ (v : String Global). IsDocumentName (string_bytes v)) (sym is) all.0
name_at (w ∷ ws) (suc k) word within is all =
    let less : k < length ws = omega (arith, within) in
    name_at ws k word less is all.1

pub not_true : IsTrue false → ⊥
not_true e = absurd cc

same_head : (a b : List ℕ) → a ∷ [] ≡ b ∷ [] → a ≡ b
same_head a b e = cc

-- one word alone is this text exactly where the words are
pub alone : (words : List (String Global)) (word : String Global) (text bytes : List ℕ) → length words ≡ 1 → word ≡ get_or words 0 word → bytes ≡ string_bytes word
    → (bytes ≡ text) ↔ (map string_bytes words ≡ text ∷ [])
alone [] word text bytes one is of = absurd (omega (arith, one))
alone (w ∷ []) word text bytes one is of =
    let same : bytes ≡ string_bytes w = of ∙ ap string_bytes is in
    ((λ e. ap (λ (b : List ℕ). b ∷ []) (sym same ∙ e)), (λ e. same ∙ same_head (string_bytes w) text e))
alone (w ∷ v ∷ ws) word text bytes one is of = absurd (omega (arith, one))

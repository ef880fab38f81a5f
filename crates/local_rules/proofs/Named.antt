-- The schema that a text names among those of an interface.
use Rattle.std.proofs.Common.{◌≡◌, ℕ, zero, suc, List, Bool, true, false, cond, Option, Some, None, refl, sym, ap, ◌∙◌}
use Rattle.std.specs.Prelude.{bytes_eq, find, option_and_then}
use Rattle.std.proofs.lemmas.Slice.Eq.{bytes_eq-Decides}
use Rattle.json_decimal.specs.Number.{Number}
use Rattle.json_tree.specs.Values.{Json, text, array, Elements, no_elements, element}
use Rattle.json_tree.specs.Places.{element_at}
use Rattle.json_tree.specs.Members.{list_of, text_in}
use Rattle.local_rules.specs.Repeats.{holds_some}
use Rattle.local_rules.specs.Levels.{entries_under}

-- the first element that passes a test is some element, and passes it
abbrev pub IsElement : (Json → Bool) → Elements Number → Json → Type 0
IsElement test vs v = (i : ℕ) × (element_at vs i ≡ Some v) × (test v ≡ true)

pub found_element : (test : Json → Bool) (vs : Elements Number) (v : Json) → find test (list_of vs) ≡ Some v → IsElement test vs v
found_element test no_elements v found = absurd cc
found_element test (element w vs) v found =
    elim (test w) as (λ b. test w ≡ b → cond b (Some w) (find test (list_of vs)) ≡ Some v → IsElement test (element w vs) v) [
      | true ↦ λ on first. (let same : w ≡ v = cc in (zero, first, ap test (sym same) ∙ on))
      | false ↦ λ off rest. (let later = found_element test vs v rest in (suc later.0, later.1, later.2))
    ] refl found

pub found_under : (test : Json → Bool) (o : Option Json) (v : Json) → find test (entries_under o) ≡ Some v
    → (vs : Elements Number) × (o ≡ Some (array vs)) × IsElement test vs v
found_under test (Some (array vs)) v found = (vs, refl, found_element test vs v found)
found_under test None v found = absurd cc
found_under test (Some other) v found = absurd cc

pub id_is : (bytes : List ℕ) (o : Option Json) → holds_some (λ id. bytes_eq id bytes) (option_and_then text_in o) ≡ true → o ≡ Some (text bytes)
id_is bytes (Some (text id)) same = ap (λ (t : List ℕ). Some (text t)) ((bytes_eq-Decides id bytes).0 same)
id_is bytes None same = absurd cc
id_is bytes (Some other) same = absurd cc

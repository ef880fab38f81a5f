-- One value is read of one text.
use Rattle.std.proofs.Common.{◌≡◌, ℕ, List, sym, ap, ap₂, ◌∙◌}
use Rattle.json_decimal.specs.Number.{Number}
use Rattle.json_decimal.specs.Literal.{IsLiteralOf}
use Rattle.json_tree.specs.Values.{Raw, Json, Elements, Members, null, truth, number, text, array, object, no_elements, element, no_members, member, IsReadAs, ElementsAreReadAs, MembersAreReadAs}

-- as the contract of `json_decimal::one_number` says
abbrev pub OneNumber : Type 0
OneNumber = (bytes : List ℕ) (m n : Number) → IsLiteralOf bytes m → IsLiteralOf bytes n → m ≡ n

mutual
  pub one_value : OneNumber → (raw : Raw) (v w : Json) → IsReadAs raw v → IsReadAs raw w → v ≡ w
  one_value one null v w p q = p ∙ sym q
  one_value one (truth b) v w p q = p ∙ sym q
  one_value one (number literal) v w p q = p.3 ∙ ap number (one literal p.0 q.0 p.1 q.1) ∙ sym q.3
  one_value one (text bytes) v w p q = p ∙ sym q
  one_value one (array vs) v w p q = p.2 ∙ ap array (one_elements one vs p.0 q.0 p.1 q.1) ∙ sym q.2
  one_value one (object ms) v w p q = p.2 ∙ ap object (one_members one ms p.0 q.0 p.1 q.1) ∙ sym q.2

  one_elements : OneNumber → (raws : Elements (List ℕ)) (vs ws : Elements Number) → ElementsAreReadAs raws vs → ElementsAreReadAs raws ws → vs ≡ ws
  one_elements one no_elements vs ws p q = p ∙ sym q
  one_elements one (element raw raws) vs ws p q =
      p.4 ∙ ap₂ element (one_value one raw p.0 q.0 p.2 q.2) (one_elements one raws p.1 q.1 p.3 q.3) ∙ sym q.4

  one_members : OneNumber → (raws : Members (List ℕ)) (ms ns : Members Number) → MembersAreReadAs raws ms → MembersAreReadAs raws ns → ms ≡ ns
  one_members one no_members ms ns p q = p ∙ sym q
  one_members one (member key raw raws) ms ns p q =
      p.4 ∙ ap₂ (member key) (one_value one raw p.0 q.0 p.2 q.2) (one_members one raws p.1 q.1 p.3 q.3) ∙ sym q.4

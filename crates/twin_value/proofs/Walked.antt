-- The walk over the parts of a value, from left to right.
use Rattle.std.proofs.Common.{◌≡◌, ℕ, ◌+◌, ◌<◌, ◌⊎◌, inl, inr, List, [], ◌∷◌, ◌++◌, reverse, Bool, Option, Some, None, refl, sym, ap, subst, ◌∙◌, arith}
use Rattle.std.proofs.lemmas.List.{reverse-append}
use Rattle.std.proofs.lemmas.Bool.{cases_lt}
use Rattle.json_decimal.specs.Decimals.{number_of}
use Rattle.json_decimal.specs.declared.decimal.Decimal.{Decimal}
use Rattle.json_tree.specs.Values.{Json, null, truth, number, text, array, object}
use Rattle.json_tree.specs.View.{view}
use Rattle.json_tree.specs.declared.tree.Tree.{Tree}
use Rattle.json_tree.specs.declared.tree.Tree as variants
use Rattle.json_tree.proofs.Views.{view-Null, view-Bool, view-Number, view-Text}
use Rattle.twin_value.specs.Codes.{code_number}
use Rattle.twin_value.specs.Roles.{Role, body_member_role}
use Rattle.twin_value.specs.Breaches.{BreaksBody, HasBodyPart, IsBodyBreach, BodyBreachComesBefore, IsFirstBodyBreach}
use Rattle.twin_value.specs.Machinery.Walks.{JudgesBody, FindsFirstBodyBreach, FindsClear, IsClearTo}
use Rattle.twin_value.specs.declared.code.BodyCode.{BodyCode}
use Rattle.twin_value.specs.declared.walk.Found.{Found}

-- there is one part at a position, in one role
pub one_part : (r : Role) (v : Json) (i : ℕ) (s t : Role) (a b : Json) → HasBodyPart r v i s a → HasBodyPart r v i t b → (s ≡ t) × (a ≡ b)
one_part r null i s t a b p q = absurd p
one_part r (truth x) i s t a b p q = absurd p
one_part r (number x) i s t a b p q = absurd p
one_part r (text x) i s t a b p q = absurd p
one_part r (array vs) i s t a b p q = (sym p.1 ∙ q.1, (let e : Some a ≡ Some b = sym p.0 ∙ q.0 in cc))
one_part r (object ms) i s t a b p q =
    let e : Some (p.0, a) ≡ Some (q.0, b) = sym p.1 ∙ q.1 in
    let f : (p.0, a) ≡ (q.0, b) = cc in
    (sym p.2 ∙ (ap (λ (m : List ℕ × Json). body_member_role r m.0) f ∙ q.2), ap (λ (m : List ℕ × Json). m.1) f)

abbrev pub Clean : Role → Json → Type 0
Clean r v = (broken : BodyCode) → BreaksBody broken r v → ⊥

-- ---- at the value itself
here_least : (r : Role) (v : Json) (broken : BodyCode) → ((other : BodyCode) → code_number other < code_number broken → BreaksBody other r v → ⊥)
    → (other : List ℕ) (another : BodyCode) → BodyBreachComesBefore other another [] broken → IsBodyBreach r v other another → ⊥
here_least r v broken least [] another (inl before) b = before
here_least r v broken least [] another (inr same) b = least another same.1 b
here_least r v broken least (i ∷ place) another (inl before) b = before
here_least r v broken least (i ∷ place) another (inr same) b = let e : i ∷ place ≡ [] = same.0 in absurd cc

pub first_here : (r : Role) (v : Json) (broken : BodyCode) → JudgesBody r v (Some broken) → IsFirstBodyBreach (IsBodyBreach r v) [] broken
first_here r v broken j = record { breach = j.0; least = here_least r v broken j.1 }

pub judged_so : (r : Role) (v : Json) (up : List ℕ) (broken : BodyCode) (o : Option BodyCode) → JudgesBody r v o → o ≡ Some broken → up ≡ [] → IsFirstBodyBreach (IsBodyBreach r v) (reverse up) broken
judged_so r v up broken o j some empty =
    subst (λ (l : List ℕ). IsFirstBodyBreach (IsBodyBreach r v) (reverse l) broken) (sym empty) (first_here r v broken (subst (λ (p : Option BodyCode). JudgesBody r v p) some j))

pub judged_clean : (r : Role) (v : Json) (o : Option BodyCode) → JudgesBody r v o → o ≡ None → Clean r v
judged_clean r v o j none = subst (λ (p : Option BodyCode). JudgesBody r v p) none j

leaf_clear : (r : Role) (v : Json) → Clean r v → ((i : ℕ) (s : Role) (part : Json) → HasBodyPart r v i s part → ⊥) → (place : List ℕ) (broken : BodyCode) → IsBodyBreach r v place broken → ⊥
leaf_clear r v clean leaf [] broken b = clean broken b
leaf_clear r v clean leaf (i ∷ place) broken b = leaf i b.0 b.1 b.2

leaf_of : (r : Role) (v w : Json) → v ≡ w → ((i : ℕ) (s : Role) (part : Json) → HasBodyPart r w i s part → ⊥) → (i : ℕ) (s : Role) (part : Json) → HasBodyPart r v i s part → ⊥
leaf_of r v w e leaf i s part h = leaf i s part (subst (λ (x : Json). HasBodyPart r x i s part) e h)

leaf_any : (r : Role) (tree : Tree) → (tree ≡ variants.Null) ⊎ ((b : Bool) × (tree ≡ variants.Bool b)) ⊎ ((d : Decimal) × (tree ≡ variants.Number d)) ⊎ ((t : List ℕ) × (tree ≡ variants.Text t))
    → (i : ℕ) (s : Role) (part : Json) → HasBodyPart r (view tree) i s part → ⊥
leaf_any r tree (inl e) = leaf_of r (view tree) null (ap view e ∙ view-Null) (λ i s part p. p)
leaf_any r tree (inr (inl (b, e))) = leaf_of r (view tree) (truth b) (ap view e ∙ view-Bool b) (λ i s part p. p)
leaf_any r tree (inr (inr (inl (d, e)))) = leaf_of r (view tree) (number (number_of d)) (ap view e ∙ view-Number d) (λ i s part p. p)
leaf_any r tree (inr (inr (inr (t, e)))) = leaf_of r (view tree) (text t) (ap view e ∙ view-Text t) (λ i s part p. p)

pub leaf_after : (r : Role) (tree : Tree) (o : Option BodyCode) → JudgesBody r (view tree) o → o ≡ None
    → (tree ≡ variants.Null) ⊎ ((b : Bool) × (tree ≡ variants.Bool b)) ⊎ ((d : Decimal) × (tree ≡ variants.Number d)) ⊎ ((t : List ℕ) × (tree ≡ variants.Text t))
    → FindsFirstBodyBreach (IsBodyBreach r (view tree)) None
leaf_after r tree o j none is = leaf_clear r (view tree) (judged_clean r (view tree) o j none) (leaf_any r tree is)

-- the parts of a value that is clean itself
pub parts_after : (r : Role) (v w : Json) (o : Option BodyCode) (found : Option Found) → JudgesBody r v o → o ≡ None → v ≡ w → FindsClear r w found → FindsFirstBodyBreach (IsBodyBreach r v) found
parts_after r v w o found j none e h =
    subst (λ (x : Json). FindsFirstBodyBreach (IsBodyBreach r x) found) (sym e) (h (judged_clean r w o (subst (λ (x : Json). JudgesBody r x o) e j) none))

-- ---- the loop over the parts
pub clear_start : (r : Role) (v : Json) → IsClearTo r v 0
clear_start r v = record { clear = λ position place broken less b. omega (arith, less) }

pub reverse_more : (up : List ℕ) (i : ℕ) → reverse (up ++ i ∷ []) ≡ i ∷ reverse up
reverse_more up i = reverse-append up (i ∷ [])

-- what comes before a breach in a part stands at the value, in an earlier part, or before it in this one
pub comes_before : (at : ℕ) (place : List ℕ) (broken : BodyCode) (other : List ℕ) (another : BodyCode) → BodyBreachComesBefore other another (at ∷ place) broken
    → (other ≡ []) ⊎ ((j : ℕ) × (below : List ℕ) × (other ≡ j ∷ below) × ((j < at) ⊎ ((j ≡ at) × BodyBreachComesBefore below another place broken)))
comes_before at place broken [] another c = inl refl
comes_before at place broken (j ∷ below) another (inl (inl less)) = inr (j, below, refl, inl less)
comes_before at place broken (j ∷ below) another (inl (inr same)) = inr (j, below, refl, inr (same.0, inl same.1))
comes_before at place broken (j ∷ below) another (inr same) =
    let e : j ∷ below ≡ at ∷ place = same.0 in
    let one : j ≡ at = cc in
    let two : below ≡ place = cc in
    inr (j, below, refl, inr (one, inr (two, same.1)))

-- a breach below a part stands in it
pub in_part : (r : Role) (v : Json) (at : ℕ) (s : Role) (part : Json) (place : List ℕ) (broken : BodyCode) → HasBodyPart r v at s part → IsBodyBreach r v (at ∷ place) broken → IsBodyBreach s part place broken
in_part r v at s part place broken p b =
    let one = one_part r v at b.0 s b.1 part b.2 p in
    subst (λ (x : Json). IsBodyBreach s x place broken) one.1 (subst (λ (q : Role). IsBodyBreach q b.1 place broken) one.0 b.3)

part_least : (r : Role) (v : Json) (at : ℕ) (s : Role) (part : Json) → IsClearTo r v at → Clean r v → HasBodyPart r v at s part → (place : List ℕ) (broken : BodyCode)
    → ((other : List ℕ) (another : BodyCode) → BodyBreachComesBefore other another place broken → IsBodyBreach s part other another → ⊥)
    → (other : List ℕ) (another : BodyCode) → BodyBreachComesBefore other another (at ∷ place) broken → IsBodyBreach r v other another → ⊥
part_least r v at s part walked here p place broken least other another c b = elim (comes_before at place broken other another c) [
  | inl e ↦ here another (subst (λ (o : List ℕ). IsBodyBreach r v o another) e b)
  | inr h ↦ elim h.3 [
    | inl less ↦ walked.clear h.0 h.1 another less (subst (λ (o : List ℕ). IsBodyBreach r v o another) h.2 b)
    | inr same ↦ (let b2 = subst (λ (o : List ℕ). IsBodyBreach r v o another) h.2 b in
        let b3 = subst (λ (j : ℕ). IsBodyBreach r v (j ∷ h.1) another) same.0 b2 in
        least h.1 another same.1 (in_part r v at s part h.1 another p b3))
  ]
]

found_in : (r : Role) (v : Json) (at : ℕ) (s : Role) (part : Json) → IsClearTo r v at → Clean r v → HasBodyPart r v at s part → (up : List ℕ) (broken : BodyCode)
    → IsFirstBodyBreach (IsBodyBreach s part) (reverse up) broken → IsFirstBodyBreach (IsBodyBreach r v) (reverse (up ++ at ∷ [])) broken
found_in r v at s part walked here p up broken first =
    subst (λ (o : List ℕ). IsFirstBodyBreach (IsBodyBreach r v) o broken) (sym (reverse_more up at)) (record {
      breach = (s, part, p, first.breach);
      least = part_least r v at s part walked here p (reverse up) broken first.least;
    })

pub found_in_part : (r : Role) (v : Json) (at : ℕ) (s : Role) (part : Json) (inner up : Found) (found : Option Found) → IsClearTo r v at → HasBodyPart r v at s part
    → FindsFirstBodyBreach (IsBodyBreach s part) found → found ≡ Some inner → (up.steps.items ≡ inner.steps.items ++ at ∷ []) × (up.code ≡ inner.code) → Clean r v → FindsFirstBodyBreach (IsBodyBreach r v) (Some up)
found_in_part r v at s part inner up found walked p w some e here =
    let first : IsFirstBodyBreach (IsBodyBreach s part) (reverse inner.steps.items) inner.code = subst (λ (o : Option Found). FindsFirstBodyBreach (IsBodyBreach s part) o) some w in
    let more = found_in r v at s part walked here p inner.steps.items inner.code first in
    subst (λ (c : BodyCode). IsFirstBodyBreach (IsBodyBreach r v) (reverse up.steps.items) c) (sym e.1)
    (subst (λ (l : List ℕ). IsFirstBodyBreach (IsBodyBreach r v) (reverse l) inner.code) (sym e.0) more)

none_below : (r : Role) (v : Json) (at : ℕ) (s : Role) (part : Json) → IsClearTo r v at → HasBodyPart r v at s part → ((place : List ℕ) (broken : BodyCode) → IsBodyBreach s part place broken → ⊥)
    → (position : ℕ) (place : List ℕ) (broken : BodyCode) → position < at + 1 → IsBodyBreach r v (position ∷ place) broken → ⊥
none_below r v at s part walked p none position place broken less b = elim (cases_lt position at) [
  | inl before ↦ walked.clear position place broken before b
  | inr high ↦ (let e : position ≡ at = omega (arith, less, high) in
      none place broken (in_part r v at s part place broken p (subst (λ (j : ℕ). IsBodyBreach r v (j ∷ place) broken) e b)))
]

pub none_in_part : (r : Role) (v : Json) (at : ℕ) (s : Role) (part : Json) (found : Option Found) → IsClearTo r v at → HasBodyPart r v at s part
    → FindsFirstBodyBreach (IsBodyBreach s part) found → found ≡ None → IsClearTo r v (at + 1)
none_in_part r v at s part found walked p w none = record {
  clear = none_below r v at s part walked p (subst (λ (o : Option Found). FindsFirstBodyBreach (IsBodyBreach s part) o) none w);
}

all_clear : (r : Role) (v : Json) (at : ℕ) → IsClearTo r v at → Clean r v → ((i : ℕ) (s : Role) (part : Json) → HasBodyPart r v i s part → i < at)
    → (place : List ℕ) (broken : BodyCode) → IsBodyBreach r v place broken → ⊥
all_clear r v at walked here within [] broken b = here broken b
all_clear r v at walked here within (i ∷ place) broken b = walked.clear i place broken (within i b.0 b.1 b.2) b

pub walked_all : (r : Role) (v : Json) (at : ℕ) → IsClearTo r v at → ((i : ℕ) (s : Role) (part : Json) → HasBodyPart r v i s part → i < at) → Clean r v → FindsFirstBodyBreach (IsBodyBreach r v) None
walked_all r v at walked within here = all_clear r v at walked here within

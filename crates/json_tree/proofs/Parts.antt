-- Parts of values, by their positions.
use Rattle.std.proofs.Common.{◌≡◌, ℕ, zero, suc, ◌<◌, ◌⊎◌, inl, inr, List, [], ◌∷◌, ◌++◌, length, get_or, Some, refl, sym, ap, ◌∙◌, arith}
use Rattle.json_tree.specs.Values.{Value, null, truth, number, text, array, object, elements_of, members_of}
use Rattle.json_tree.specs.Places.{element_at, member_at, IsPart}
use Rattle.json_tree.specs.declared.tree.Tree.{Tree}
use Rattle.json_tree.specs.declared.tree.Member.{Member}
use Rattle.json_tree.specs.View.{view, member_view, elements_view, members_view}

-- there is one part at a position
pub one_part : {N : Type 0} (v : Value N) (i : ℕ) (a b : Value N) → IsPart v i a → IsPart v i b → a ≡ b
one_part null i a b p q = absurd p
one_part (truth t) i a b p q = absurd p
one_part (number n) i a b p q = absurd p
one_part (text t) i a b p q = absurd p
one_part {N} (array vs) i a b p q = let e : Some a ≡ Some b = sym p ∙ q in cc
one_part {N} (object ms) i a b p q = let e : Some (p.0, a) ≡ Some (q.0, b) = sym p.1 ∙ q.1 in let f : (p.0, a) ≡ (q.0, b) = cc in ap (λ (m : List ℕ × Value N). m.1) f

pub element_within : {N : Type 0} (vs : List (Value N)) (i : ℕ) (part : Value N) → element_at (elements_of vs) i ≡ Some part → i < length vs
element_within [] i part e = absurd cc
element_within (v ∷ vs) zero part e = omega arith
element_within (v ∷ vs) (suc i) part e = let h = element_within vs i part e in omega (arith, h)

pub member_within : {N : Type 0} (ms : List (List ℕ × Value N)) (i : ℕ) (m : List ℕ × Value N) → member_at (members_of ms) i ≡ Some m → i < length ms
member_within [] i m e = absurd cc
member_within (n ∷ ms) zero m e = omega arith
member_within (n ∷ ms) (suc i) m e = let h = member_within ms i m e in omega (arith, h)

-- the parts of a tree
pub item_part : (items : List Tree) (i : ℕ) (item : Tree) → i < length items → item ≡ get_or items i item → element_at (elements_view items) i ≡ Some (view item)
item_part [] i item lt e = absurd (omega (arith, lt))
item_part (t ∷ items) zero item lt e = ap (λ (x : Tree). Some (view x)) (sym e)
item_part (t ∷ items) (suc i) item lt e = item_part items i item (omega (arith, lt)) e

pub member_part : (ms : List Member) (i : ℕ) (m : Member) → i < length ms → m ≡ get_or ms i m → member_at (members_view ms) i ≡ Some (member_view m)
member_part [] i m lt e = absurd (omega (arith, lt))
member_part (n ∷ ms) zero m lt e = ap (λ (x : Member). Some (member_view x)) (sym e)
member_part (n ∷ ms) (suc i) m lt e = member_part ms i m (omega (arith, lt)) e

pub item_within : (items : List Tree) (i : ℕ) (part : _) → element_at (elements_view items) i ≡ Some part → i < length items
item_within [] i part e = absurd cc
item_within (t ∷ items) zero part e = omega arith
item_within (t ∷ items) (suc i) part e = let h = item_within items i part e in omega (arith, h)

pub value_within : (ms : List Member) (i : ℕ) (m : _) → member_at (members_view ms) i ≡ Some m → i < length ms
value_within [] i m e = absurd cc
value_within (n ∷ ms) zero m e = omega arith
value_within (n ∷ ms) (suc i) m e = let h = value_within ms i m e in omega (arith, h)

-- one more part
pub element_old : {N : Type 0} (vs : List (Value N)) (v : Value N) (i : ℕ) (part : Value N) → element_at (elements_of vs) i ≡ Some part → element_at (elements_of (vs ++ v ∷ [])) i ≡ Some part
element_old [] v i part e = absurd cc
element_old (w ∷ vs) v zero part e = e
element_old (w ∷ vs) v (suc i) part e = element_old vs v i part e

pub element_new : {N : Type 0} (vs : List (Value N)) (v : Value N) → element_at (elements_of (vs ++ v ∷ [])) (length vs) ≡ Some v
element_new [] v = refl
element_new (w ∷ vs) v = element_new vs v

pub element_either : {N : Type 0} (vs : List (Value N)) (v : Value N) (i : ℕ) (part : Value N) → element_at (elements_of (vs ++ v ∷ [])) i ≡ Some part
    → ((i < length vs) × (element_at (elements_of vs) i ≡ Some part)) ⊎ ((i ≡ length vs) × (v ≡ part))
element_either [] v zero part e = inr (refl, cc)
element_either [] v (suc i) part e = absurd cc
element_either (w ∷ vs) v zero part e = inl (omega arith, e)
element_either (w ∷ vs) v (suc i) part e = elim (element_either vs v i part e) [
  | inl h ↦ let lt = h.0 in inl (omega (arith, lt), h.1)
  | inr h ↦ inr (ap suc h.0, h.1)
]

pub member_old : {N : Type 0} (ms : List (List ℕ × Value N)) (m : List ℕ × Value N) (i : ℕ) (n : List ℕ × Value N) → member_at (members_of ms) i ≡ Some n → member_at (members_of (ms ++ m ∷ [])) i ≡ Some n
member_old [] m i n e = absurd cc
member_old (l ∷ ms) m zero n e = e
member_old (l ∷ ms) m (suc i) n e = member_old ms m i n e

pub member_new : {N : Type 0} (ms : List (List ℕ × Value N)) (key : List ℕ) (v : Value N) → member_at (members_of (ms ++ (key, v) ∷ [])) (length ms) ≡ Some (key, v)
member_new [] key v = refl
member_new (l ∷ ms) key v = member_new ms key v

pub member_either : {N : Type 0} (ms : List (List ℕ × Value N)) (key : List ℕ) (v : Value N) (i : ℕ) (k : List ℕ) (part : Value N) → member_at (members_of (ms ++ (key, v) ∷ [])) i ≡ Some (k, part)
    → ((i < length ms) × (member_at (members_of ms) i ≡ Some (k, part))) ⊎ ((i ≡ length ms) × (v ≡ part))
member_either {N} [] key v zero k part e = let f : (key, v) ≡ (k, part) = cc in inr (refl, ap (λ (m : List ℕ × Value N). m.1) f)
member_either [] key v (suc i) k part e = absurd cc
member_either (l ∷ ms) key v zero k part e = inl (omega arith, e)
member_either (l ∷ ms) key v (suc i) k part e = elim (member_either ms key v i k part e) [
  | inl h ↦ let lt = h.0 in inl (omega (arith, lt), h.1)
  | inr h ↦ inr (ap suc h.0, h.1)
]

-- The first number, in preorder, that is out of range.
use Rattle.std.proofs.Common.{◌≡◌, ℕ, ◌<◌, ◌⊎◌, inl, inr, List, [], ◌∷◌, ◌++◌, length, reverse, Option, Some, None, refl, sym, subst, arith}
use Rattle.json_decimal.specs.Number.{Number, IsOutOfRange}
use Rattle.json_decimal.specs.Literal.{IsLiteralOf}
use Rattle.json_tree.specs.Values.{Raw, number, array, object, elements_of, members_of}
use Rattle.json_tree.specs.Places.{IsPart, IsBefore}
use Rattle.json_read.specs.Faults.{IsRangeAt}
use Rattle.json_read.specs.Machinery.Ways.{IsFirstAt, IsFirstRange, first_way}
use Rattle.json_read.specs.Machinery.Automaton.{Pairs}
use Rattle.json_tree.proofs.Parts.{element_within, element_old, element_new, element_either, member_within, member_old, member_new, member_either}
use Rattle.json_read.proofs.Duplicates.{reverse_more}

pub range_down : (v : Raw) (i : ℕ) (place : List ℕ) → IsRangeAt v (i ∷ place) → (part : Raw) × IsPart v i part × IsRangeAt part place
range_down v i place (l, n, s, is, out) = (s.0, s.1, (l, n, s.2, is, out))

pub range_up : (v : Raw) (i : ℕ) (part : Raw) (place : List ℕ) → IsPart v i part → IsRangeAt part place → IsRangeAt v (i ∷ place)
range_up v i part place p (l, n, s, is, out) = (l, n, (part, p, s), is, out)

-- ---- where there are no parts
pub range_leaf : (v : Raw) → ((l : List ℕ) → v ≡ number l → ⊥) → ((i : ℕ) (part : Raw) → IsPart v i part → ⊥) → IsFirstRange v None
range_leaf v other none [] r = other r.0 r.2
range_leaf v other none (i ∷ place) r = let d = range_down v i place r in none i d.0 d.1

pub range_here : (l : List ℕ) (n : Number) → IsLiteralOf l n → IsOutOfRange n → IsFirstRange (number l) (Some [])
range_here l n is out = ((l, n, refl, is, out), λ before lt r. lt)

pub range_none : (l : List ℕ) → ((n : Number) → IsLiteralOf l n → IsOutOfRange n → ⊥) → IsFirstRange (number l) None
range_none l none [] (m, n, e, is, out) = let same : l ≡ m = cc in none n (subst (λ (x : List ℕ). IsLiteralOf x n) (sym same) is) out
range_none l none (i ∷ place) r = let d = range_down (number l) i place r in absurd d.1

-- ---- one more part
-- The new value is the old one with this part behind the others, which are so many.
pub record Adds (old new : Raw) (n : ℕ) (v : Raw) : Type 0 where
  pub kept : (i : ℕ) (part : Raw) → IsPart old i part → IsPart new i part
  pub within : (i : ℕ) (part : Raw) → IsPart old i part → i < n
  pub last : IsPart new n v
  pub either : (i : ℕ) (part : Raw) → IsPart new i part → ((i < n) × IsPart old i part) ⊎ ((i ≡ n) × (v ≡ part))
  pub old_root : IsRangeAt old [] → ⊥
  pub new_root : IsRangeAt new [] → ⊥

keeps_before : (old new : Raw) (n : ℕ) (v : Raw) → Adds old new n v → (i : ℕ) (place : List ℕ) → IsFirstAt (IsRangeAt old) (i ∷ place)
    → (before : List ℕ) → IsBefore before (i ∷ place) → IsRangeAt new before → ⊥
keeps_before old new n v a i place h [] lt r = a.new_root r
keeps_before old new n v a i place h (j ∷ before) lt r =
    let here = range_down old i place h.0 in
    let less : i < n = a.within i here.0 here.1 in
    let d = range_down new j before r in
    elim (a.either j d.0 d.1) [
      | inl p ↦ h.1 (j ∷ before) lt (range_up old j d.0 before p.1 d.2)
      | inr p ↦ (let same = p.0 in elim lt [ inl l ↦ omega (arith, less, same, l) | inr e ↦ (let f = e.0 in omega (arith, less, same, f)) ])
    ]

keeps : (old new : Raw) (n : ℕ) (v : Raw) → Adds old new n v → (place : List ℕ) → IsFirstAt (IsRangeAt old) place → IsFirstAt (IsRangeAt new) place
keeps old new n v a [] h = absurd (a.old_root h.0)
keeps old new n v a (i ∷ place) h =
    let d = range_down old i place h.0 in
    (range_up new i d.0 place (a.kept i d.0 d.1) d.2, keeps_before old new n v a i place h)

adds_before : (old new : Raw) (n : ℕ) (v : Raw) → Adds old new n v → ((place : List ℕ) → IsRangeAt old place → ⊥) → (place : List ℕ) → IsFirstAt (IsRangeAt v) place
    → (before : List ℕ) → IsBefore before (n ∷ place) → IsRangeAt new before → ⊥
adds_before old new n v a none place h [] lt r = a.new_root r
adds_before old new n v a none place h (j ∷ before) lt r =
    let d = range_down new j before r in
    elim (a.either j d.0 d.1) [
      | inl p ↦ none (j ∷ before) (range_up old j d.0 before p.1 d.2)
      | inr p ↦ (let same = p.0 in elim lt [
        | inl l ↦ omega (arith, same, l)
        | inr e ↦ h.1 before e.1 (subst (λ (w : Raw). IsRangeAt w before) (sym p.1) d.2)
      ])
    ]

adds_none : (old new : Raw) (n : ℕ) (v : Raw) → Adds old new n v → ((place : List ℕ) → IsRangeAt old place → ⊥) → ((place : List ℕ) → IsRangeAt v place → ⊥)
    → (place : List ℕ) → IsRangeAt new place → ⊥
adds_none old new n v a none clear [] r = a.new_root r
adds_none old new n v a none clear (j ∷ place) r =
    let d = range_down new j place r in
    elim (a.either j d.0 d.1) [
      | inl p ↦ none (j ∷ place) (range_up old j d.0 place p.1 d.2)
      | inr p ↦ clear place (subst (λ (w : Raw). IsRangeAt w place) (sym p.1) d.2)
    ]

pub range_added : (old new : Raw) (n : ℕ) (v : Raw) → Adds old new n v → (before inner : Option (List ℕ)) → IsFirstRange old before → IsFirstRange v inner
    → IsFirstRange new (first_way before inner n)
range_added old new n v a (Some up) inner h g = keeps old new n v a (reverse up) h
range_added old new n v a None (Some up) h g =
    subst (IsFirstAt (IsRangeAt new)) (sym (reverse_more up n))
    (range_up new n v (reverse up) a.last g.0, adds_before old new n v a h (reverse up) g)
range_added old new n v a None None h g = adds_none old new n v a h g

-- a part without one changes nothing
pub way_kept : (before : Option (List ℕ)) (n : ℕ) → before ≡ first_way before None n
way_kept None n = refl
way_kept (Some up) n = refl

pub adds_element : (vs : List Raw) (v : Raw) → Adds (array (elements_of vs)) (array (elements_of (vs ++ v ∷ []))) (length vs) v
adds_element vs v = record {
  kept = λ i part e. element_old vs v i part e;
  within = λ i part e. element_within vs i part e;
  last = element_new vs v;
  either = λ i part e. element_either vs v i part e;
  old_root = λ r. (let e : array (elements_of vs) ≡ number r.0 = r.2 in absurd cc);
  new_root = λ r. (let e : array (elements_of (vs ++ v ∷ [])) ≡ number r.0 = r.2 in absurd cc);
}

member_cases : (ms : Pairs) (key : List ℕ) (v : Raw) (i : ℕ) (part : Raw) → IsPart (object (members_of (ms ++ (key, v) ∷ []))) i part
    → ((i < length ms) × IsPart (object (members_of ms)) i part) ⊎ ((i ≡ length ms) × (v ≡ part))
member_cases ms key v i part p = elim (member_either ms key v i p.0 part p.1) [
  | inl h ↦ inl (h.0, (p.0, h.1))
  | inr h ↦ inr h
]

pub adds_member : (ms : Pairs) (key : List ℕ) (v : Raw) → Adds (object (members_of ms)) (object (members_of (ms ++ (key, v) ∷ []))) (length ms) v
adds_member ms key v = record {
  kept = λ i part p. (p.0, member_old ms (key, v) i (p.0, part) p.1);
  within = λ i part p. member_within ms i (p.0, part) p.1;
  last = (key, member_new ms key v);
  either = λ i part p. member_cases ms key v i part p;
  old_root = λ r. (let e : object (members_of ms) ≡ number r.0 = r.2 in absurd cc);
  new_root = λ r. (let e : object (members_of (ms ++ (key, v) ∷ [])) ≡ number r.0 = r.2 in absurd cc);
}

-- An interface has at most one list of what it inherits.
use Rattle.std.proofs.Common.{◌≡◌, ℕ, zero, suc, ◌<◌, ◌⊎◌, inl, inr, List, [], ◌∷◌, map, length, slice_index_or, refl, sym, ap, ◌∙◌, subst, true≢false, Less, is_eq, arith}
use Rattle.std.specs.Prelude.{Contains}
use Rattle.std.specs.List.Sorted.{IsStrictlySortedBy}
use Rattle.std.proofs.lemmas.Cmp.{nat_list_cmp_total}
use Rattle.dt_base.specs.names.Grammar.{Identifier, dtmi_text, id_cmp}
use Rattle.dtdl_terms.specs.declared.interface.Interface.{Interface}
use Rattle.dtdl_terms.specs.declared.resolved.NamedIn.{NamedIn}
use Rattle.dtdl_terms.specs.declared.resolved.PartOf.{PartOf}
use Rattle.dtdl_terms.specs.declared.resolved.Resolved.{Resolved}
use Rattle.dtdl_terms.specs.declared.resolved.ResolvedContent.{ResolvedContent}
use Rattle.model_life.specs.resolution.Resolving.{HasPart, ListsContents, ListsAncestors, ListsNamed, ListsParts, IsResolved}
use Rattle.model_life.specs.resolution.Machinery.Families.{IsThere}
use Rattle.model_life.proofs.resolution.ByKey.{C, alike, all_of_contained, from_contains}
use Rattle.model_life.proofs.resolution.Families.{stands, one_there}

-- ---- lists in one order with the same elements
uncons_at : {X : Type 0} (y : X) (ys : List X) (x : X) (k : ℕ) → k < length (y ∷ ys) → slice_index_or (y ∷ ys) k x ≡ x → (y ≡ x) ⊎ Contains ys x
uncons_at y ys x zero low is = inl is
uncons_at y ys x (suc k) low is = inr (k, omega (arith, low), is)

pub uncons : {X : Type 0} (y : X) (ys : List X) (x : X) → Contains (y ∷ ys) x → (y ≡ x) ⊎ Contains ys x
uncons y ys x (k, low, is) = uncons_at y ys x k low is

pub here : {X : Type 0} (y : X) (ys : List X) → Contains (y ∷ ys) y
here y ys = (zero, omega arith, refl)

pub there : {X : Type 0} (y : X) (ys : List X) (x : X) → Contains ys x → Contains (y ∷ ys) x
there y ys x (k, low, is) = (suc k, omega (arith, low), is)

never_itself : (t : List ℕ) → C t t ≡ Less → ⊥
never_itself t h = true≢false (sym (ap is_eq (alike t)) ∙ ap is_eq h)

never_both : (t u : List ℕ) → C t u ≡ Less → C u t ≡ Less → ⊥
never_both t u h g = never_itself t (nat_list_cmp_total.trans t u t h g)

module _ {X J : Type 0} (key : X → J) (spell : J → List ℕ) where
  abbrev Ascends : List X → Type 0
  Ascends xs = IsStrictlySortedBy (λ a b. C (spell a) (spell b)) (map key xs)

  below : (x : X) (xs : List X) → Ascends (x ∷ xs) → (z : X) → Contains xs z → C (spell (key x)) (spell (key z)) ≡ Less
  unfolding IsStrictlySortedBy
  below x xs up z h = all_of_contained (λ j. C (spell (key x)) (spell j) ≡ Less) key xs z up.0 h

  tail : (x : X) (xs : List X) → Ascends (x ∷ xs) → Ascends xs
  unfolding IsStrictlySortedBy
  tail x xs up = up.1

  one_first : (x y : X) (xs ys : List X) → Ascends (x ∷ xs) → Ascends (y ∷ ys) → Contains (y ∷ ys) x → Contains (x ∷ xs) y → x ≡ y
  one_first x y xs ys up over h g =
      elim (uncons y ys x h) [
        | inl e ↦ sym e
        | inr later ↦
            elim (uncons x xs y g) [
              | inl e ↦ e
              | inr behind ↦ absurd (never_both (spell (key x)) (spell (key y)) (below x xs up y behind) (below y ys over x later))
            ]
      ]

  in_tail : (x y : X) (xs ys : List X) → Ascends (x ∷ xs) → x ≡ y → (z : X) → Contains xs z → Contains (y ∷ ys) z → Contains ys z
  in_tail x y xs ys up same z h g =
      elim (uncons y ys z g) [
        | inl e ↦ absurd (never_itself (spell (key x)) (subst (λ w. C (spell (key x)) (spell (key w)) ≡ Less) (sym (same ∙ e)) (below x xs up z h)))
        | inr later ↦ later
      ]

  pub one_ascending : (xs ys : List X) → Ascends xs → Ascends ys → ((z : X) → Contains xs z → Contains ys z) → ((z : X) → Contains ys z → Contains xs z) → xs ≡ ys
  one_ascending [] [] up over f g = refl
  one_ascending [] (y ∷ ys) up over f g = let no = g y (here y ys) in absurd (omega (arith, no.1))
  one_ascending (x ∷ xs) [] up over f g = let no = f x (here x xs) in absurd (omega (arith, no.1))
  one_ascending (x ∷ xs) (y ∷ ys) up over f g =
      let same : x ≡ y = one_first x y xs ys up over (f x (here x xs)) (g y (here y ys)) in
      let rest : xs ≡ ys =
      one_ascending xs ys (tail x xs up) (tail y ys over)
      (λ z h. in_tail x y xs ys up same z h (f z (there x xs z h)))
      (λ z h. in_tail y x ys xs over (sym same) z h (g z (there y ys z h))) in
      ap (λ z. z ∷ xs) same ∙ ap (λ zs. y ∷ zs) rest

map_same : {X : Type 0} (xs : List X) → map (λ x. x) xs ≡ xs
map_same [] = refl
map_same (x ∷ xs) = ap (λ ys. x ∷ ys) (map_same xs)

-- ---- the lists of an interface
module _ (set : List Interface) (i : Interface) where
  pub one_contents : (rs ss : List ResolvedContent) → ListsContents set i rs → ListsContents set i ss → rs ≡ ss
  one_contents rs ss h g =
      one_ascending (λ (r : ResolvedContent). r.content.name) (λ n. n) rs ss h.sorted g.sorted
      (λ r x. (g.each r).1 ((h.each r).0 x)) (λ r x. (h.each r).1 ((g.each r).0 x))

  pub one_ancestors : (xs ys : List Identifier) → ListsAncestors set i xs → ListsAncestors set i ys → xs ≡ ys
  one_ancestors xs ys h g =
      one_ascending (λ (id : Identifier). id) dtmi_text xs ys (subst (IsStrictlySortedBy id_cmp) (sym (map_same xs)) h.sorted) (subst (IsStrictlySortedBy id_cmp) (sym (map_same ys)) g.sorted)
      (λ r x. (g.each r).1 ((h.each r).0 x)) (λ r x. (h.each r).1 ((g.each r).0 x))

  pub one_named : (xs ys : List NamedIn) → ListsNamed set i xs → ListsNamed set i ys → xs ≡ ys
  one_named xs ys h g =
      one_ascending (λ (n : NamedIn). n.of) dtmi_text xs ys h.sorted g.sorted
      (λ r x. (g.each r).1 ((h.each r).0 x)) (λ r x. (h.each r).1 ((g.each r).0 x))

one_part : (set : List Interface) (q o : Interface) (part other : PartOf) → IsThere set q → IsThere set o → part.of ≡ q.id → other.of ≡ o.id → other.of ≡ q.id → ListsContents set q part.contents → ListsContents set o other.contents → part ≡ other
one_part set q o part other there also a b c h g =
    let same : o ≡ q = one_there set o q also there (ap dtmi_text (sym b ∙ c)) in
    let contents : part.contents ≡ other.contents = one_contents set q part.contents other.contents h (subst (λ (x : Interface). ListsContents set x other.contents) same g) in
    let first : PartOf → Identifier → PartOf = λ p id. record { of = id; contents = p.contents } in
    ap (first part) (a ∙ sym c) ∙ ap (λ cs. record { of = other.of; contents = cs }) contents

part_stands : (set : List Interface) (i q : Interface) → HasPart set i q → IsThere set q
part_stands set i q (r, p, has, of, found) = stands set p q found

other_part : (set : List Interface) (i : Interface) (xs ys : List PartOf) → ListsParts set i xs → ListsParts set i ys → (part : PartOf) → Contains xs part → Contains ys part
other_part set i xs ys h g part x =
    let mine = h.each part x in
    let placed = from_contains (λ (p : PartOf). p.of) ys mine.0.id (g.every mine.0 mine.1) in
    let its = g.each placed.0 placed.1 in
    let same : part ≡ placed.0 = one_part set mine.0 its.0 part placed.0 (part_stands set i mine.0 mine.1) (part_stands set i its.0 its.1) mine.2 its.2 placed.2 mine.3 its.3 in
    subst (Contains ys) (sym same) placed.1

one_parts : (set : List Interface) (i : Interface) (xs ys : List PartOf) → ListsParts set i xs → ListsParts set i ys → xs ≡ ys
one_parts set i xs ys h g = one_ascending (λ (p : PartOf). p.of) dtmi_text xs ys h.sorted g.sorted (other_part set i xs ys h g) (other_part set i ys xs g h)

abbrev resolved : List ResolvedContent → List Identifier → List NamedIn → List PartOf → Resolved
resolved contents ancestors named parts = record { contents = contents; ancestors = ancestors; named = named; parts = parts }

pub one_resolved : (set : List Interface) (i : Interface) (r s : Resolved) → IsResolved set i r → IsResolved set i s → r ≡ s
one_resolved set i r s h g =
    ap (λ xs. resolved xs r.ancestors r.named r.parts) (one_contents set i r.contents s.contents h.contents g.contents)
    ∙ ap (λ xs. resolved s.contents xs r.named r.parts) (one_ancestors set i r.ancestors s.ancestors h.ancestors g.ancestors)
    ∙ ap (λ xs. resolved s.contents s.ancestors xs r.parts) (one_named set i r.named s.named h.named g.named)
    ∙ ap (λ xs. resolved s.contents s.ancestors s.named xs) (one_parts set i r.parts s.parts h.parts g.parts)

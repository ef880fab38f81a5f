-- How many contents an interface and its ancestors declare.
use Rattle.std.proofs.Common.{◌≡◌, ◌≢◌, ◌↔◌, ℕ, zero, suc, ◌+◌, ◌<◌, ◌≤◌, ◌⊎◌, inl, inr, List, [], ◌∷◌, Bool, true, false, cond, ◌&&◌, length, map, take, get_or, nat_eq, not, Option, Some, None, refl, sym, ap, ◌∙◌, subst, true≢false, arith}
use Rattle.std.specs.Prelude.{slice_get, sum}
use Rattle.std.specs.List.{AllByRecursion, IsDistinct, sum_by}
use Rattle.std.proofs.lemmas.List.Sums.{sum_by-cons, sum_by_more}
use Rattle.std.proofs.lemmas.Option.{same_Some, none-some}
use Rattle.std.proofs.lemmas.Bool.{and_from, and_parts}
use Rattle.dt_base.specs.names.Grammar.{Identifier, dtmi_text}
use Rattle.dtdl_terms.specs.Distinct.{AreDistinct}
use Rattle.dtdl_terms.specs.declared.interface.Interface.{Interface}
use Rattle.extend_resolve.specs.Chains.{IsAncestor}
use Rattle.extend_resolve.specs.SetRules.{HasTooManyContents}
use Rattle.extend_resolve.specs.Machinery.Links.{IsIn, links_at, IsWay, way_end, Arrives}
use Rattle.extend_resolve.specs.Machinery.Numbers.{kept_at}
use Rattle.extend_resolve.specs.Machinery.Worlds.{IsWorld}
use Rattle.extend_resolve.specs.Machinery.Judges.{AreBehind, counts, is_rest_of, counted_rest}
use Rattle.extend_resolve.proofs.Members.{equal_numbers, same_number, other_number, in_head, in_tail, in_cons, one_of}
use Rattle.extend_resolve.proofs.Worlds.{ancestor_arrives, arrives_ancestor, kept_by_text}
use Rattle.extend_resolve.proofs.Judged.{own_stands, kept_reached}

-- ---- sums over numbers among others
drop_one : ℕ → List ℕ → List ℕ
drop_one y [] = []
drop_one y (z ∷ zs) = cond (nat_eq y z) zs (z ∷ drop_one y zs)

module _ (g : ℕ → ℕ) where
  drop_sum : (y : ℕ) (zs : List ℕ) → IsIn y zs → sum_by g zs ≡ g y + sum_by g (drop_one y zs)
  unfolding drop_one
  drop_sum y [] h = absurd (true≢false (sym h))
  drop_sum y (z ∷ zs) h =
      elim (nat_eq y z) as (λ b. nat_eq y z ≡ b → sum_by g (z ∷ zs) ≡ g y + sum_by g (cond b zs (z ∷ drop_one y zs))) [
        | true ↦ λ e. sum_by-cons g z zs ∙ ap (λ k. g k + sum_by g zs) (sym (equal_numbers y z e))
        | false ↦ λ e.
            let later : IsIn y zs = elim (in_cons z y zs h) [ inl same ↦ absurd (true≢false (sym (same_number y z same) ∙ e)) | inr t ↦ t ] in
            let more = drop_sum y zs later in
            omega (arith, more, sum_by-cons g z zs, sum_by-cons g z (drop_one y zs))
      ] refl

  drop_in : (x y : ℕ) (zs : List ℕ) → IsIn x zs → x ≢ y → IsIn x (drop_one y zs)
  unfolding drop_one
  drop_in x y [] h apart = h
  drop_in x y (z ∷ zs) h apart =
      elim (nat_eq y z) as (λ b. nat_eq y z ≡ b → IsIn x (cond b zs (z ∷ drop_one y zs))) [
        | true ↦ λ e. elim (in_cons z x zs h) [ inl same ↦ absurd (apart (same ∙ sym (equal_numbers y z e))) | inr t ↦ t ]
        | false ↦ λ e. elim (in_cons z x zs h) [
          | inl same ↦ subst (λ k. IsIn k (z ∷ drop_one y zs)) (sym same) (in_head z (drop_one y zs))
          | inr t ↦ in_tail z x (drop_one y zs) (drop_in x y zs t apart)
        ]
      ] refl

  all_dropped : (y : ℕ) (xs zs : List ℕ) → AllByRecursion (λ x. IsIn x zs) xs → AllByRecursion (λ x. y ≢ x) xs → AllByRecursion (λ x. IsIn x (drop_one y zs)) xs
  all_dropped y [] zs all apart = tt
  all_dropped y (x ∷ xs) zs all apart = (drop_in x y zs all.0 (λ e. apart.0 (sym e)), all_dropped y xs zs all.1 apart.1)

  -- different numbers of a list have no greater sum than the list
  pub sum_within : (ys zs : List ℕ) → AreDistinct ys → AllByRecursion (λ y. IsIn y zs) ys → sum_by g ys ≤ sum_by g zs
  sum_within [] zs distinct all = omega arith
  sum_within (y ∷ ys) zs distinct all =
      let first = drop_sum y zs all.0 in
      let rest = sum_within ys (drop_one y zs) distinct.1 (all_dropped y ys zs all.1 distinct.0) in
      omega (arith, first, rest, sum_by-cons g y ys)

differs : (a b : ℕ) → not (nat_eq a b) ≡ true → a ≢ b
differs a b h e = true≢false (sym h ∙ ap not (same_number a b e))

abbrev text_of : Interface → List ℕ
text_of a = dtmi_text a.id

abbrev size_of : Interface → ℕ
size_of a = length a.contents

module _ (set new nodes : List Interface) (numbers : List (Identifier × ℕ)) (links : List (List ℕ)) (composed : List Bool) (w : IsWorld set new nodes numbers links composed)
    (index : ℕ) (i : Interface) (here : slice_get nodes index ≡ Some i) (own : ℕ) (kept : kept_at i.id numbers ≡ Some own) where
  abbrev of_rest : ℕ → ℕ
  of_rest y = cond (is_rest_of index (Some own) y) (counts (slice_get nodes y)) 0

  -- ---- the others by their numbers
  abbrev Stands : List ℕ → Interface → Type 0
  Stands ys b = IsAncestor set i b × ((y : ℕ) × IsIn y ys × (kept_at b.id numbers ≡ Some y) × (y ≢ own))

  stands_more : (y : ℕ) (ys : List ℕ) (bs : List Interface) → AllByRecursion (Stands ys) bs → AllByRecursion (Stands (y ∷ ys)) bs
  stands_more y ys [] all = tt
  stands_more y ys (b ∷ bs) all = ((all.0.0, (all.0.1.0, in_tail y all.0.1.0 ys all.0.1.1, all.0.1.2, all.0.1.3)), stands_more y ys bs all.1)

  apart_from : (a : Interface) (y : ℕ) (ys : List ℕ) (bs : List Interface) → kept_at a.id numbers ≡ Some y → AllByRecursion (λ z. nat_eq y z ≡ false) ys
      → AllByRecursion (Stands ys) bs → AllByRecursion (λ t. text_of a ≢ t) (map text_of bs)
  apart_from a y ys [] at others all = tt
  apart_from a y ys (b ∷ bs) at others all = (
    λ same.
        let z : y ≡ all.0.1.0 = same_Some y all.0.1.0 (sym at ∙ kept_by_text a.id b.id numbers same ∙ all.0.1.2) in
        true≢false (sym (same_number y all.0.1.0 z) ∙ one_of (λ k. nat_eq y k ≡ false) ys all.0.1.0 others all.0.1.1),
    apart_from a y ys bs at others all.1,
  )

  abbrev Picked : List ℕ → Type 0
  Picked ys = (bs : List Interface) × AllByRecursion (Stands ys) bs × AreDistinct (map text_of bs) × (sum (map size_of bs) ≡ sum_by of_rest ys)

  pick : (ys : List ℕ) → IsDistinct nat_eq ys → ((y : ℕ) → IsIn y ys → Arrives links index y) → Picked ys
  unfolding IsDistinct
  pick [] distinct all = ([], tt, tt, refl)
  pick (y ∷ ys) distinct all =
      let whole : sum_by of_rest (y ∷ ys) ≡ of_rest y + sum_by of_rest ys = sum_by-cons of_rest y ys in
      let more = pick ys distinct.1 (λ z h. all z (in_tail y z ys h)) in
      let found : (bs : List Interface) × AllByRecursion (Stands (y ∷ ys)) bs × AreDistinct (map text_of bs) × (sum (map size_of bs) ≡ of_rest y + sum_by of_rest ys) =
      elim (not (nat_eq y index) && not (nat_eq y own)) as (λ b. (not (nat_eq y index) && not (nat_eq y own)) ≡ b
      → (bs : List Interface) × AllByRecursion (Stands (y ∷ ys)) bs × AreDistinct (map text_of bs) × (sum (map size_of bs) ≡ cond b (counts (slice_get nodes y)) 0 + sum_by of_rest ys)) [
        | true ↦ λ e.
            let other = and_parts (not (nat_eq y index)) (not (nat_eq y own)) e in
            let arrives = all y (in_head y ys) in
            let up = arrives_ancestor w index y i here arrives in
            let at : kept_at up.0.id numbers ≡ Some y = kept_reached set new nodes numbers links composed w index y i up.0 here arrives (differs y index other.0) up.1 in
            let size : counts (slice_get nodes y) ≡ size_of up.0 = ap counts up.1 in
            let sums = more.3 in (
              up.0 ∷ more.0,
              ((up.2, (y, in_head y ys, at, differs y own other.1)), stands_more y ys more.0 more.1),
              (apart_from up.0 y ys more.0 at distinct.0 more.1, more.2),
              sum_by-cons (λ x. x) (size_of up.0) (map size_of more.0) ∙ (let e : size_of up.0 + sum (map size_of more.0) ≡ counts (slice_get nodes y) + sum_by of_rest ys = omega (arith, sums, size) in e),
            )
        | false ↦ λ e. let sums = more.3 in (more.0, stands_more y ys more.0 more.1, more.2, omega (arith, sums))
      ] refl in
      (found.0, found.1, found.2, found.3 ∙ sym whole)

  none_is_own : (ys : List ℕ) (bs : List Interface) → AllByRecursion (Stands ys) bs → AllByRecursion (λ t. text_of i ≢ t) (map text_of bs)
  none_is_own ys [] all = tt
  none_is_own ys (b ∷ bs) all =
      (λ same. all.0.1.3 (same_Some all.0.1.0 own (sym all.0.1.2 ∙ sym (kept_by_text i.id b.id numbers same) ∙ kept)), none_is_own ys bs all.1)

  ancestors_of : (ys : List ℕ) (bs : List Interface) → AllByRecursion (Stands ys) bs → AllByRecursion (IsAncestor set i) bs
  ancestors_of ys [] all = tt
  ancestors_of ys (b ∷ bs) all = (all.0.0, ancestors_of ys bs all.1)

  -- ---- numbers of others
  abbrev Numbered : List Interface → ℕ → Type 0
  Numbered bs y = (b : Interface) × (k : ℕ) × (slice_get nodes y ≡ Some b) × (slice_get bs k ≡ Some b)

  numbered_more : (a : Interface) (bs : List Interface) (ys : List ℕ) → AllByRecursion (Numbered bs) ys → AllByRecursion (Numbered (a ∷ bs)) ys
  numbered_more a bs [] all = tt
  numbered_more a bs (y ∷ ys) all = ((all.0.0, suc all.0.1, all.0.2, all.0.3), numbered_more a bs ys all.1)

  text_apart : (t : List ℕ) (bs : List Interface) (k : ℕ) (b : Interface) → AllByRecursion (λ s. t ≢ s) (map text_of bs) → slice_get bs k ≡ Some b → t ≢ text_of b
  text_apart t [] k b all at = absurd (none-some b at)
  text_apart t (c ∷ bs) zero b all at = subst (λ x. t ≢ text_of x) (same_Some c b at) all.0
  text_apart t (c ∷ bs) (suc k) b all at = text_apart t bs k b all.1 at

  number_apart : (y : ℕ) (a : Interface) (bs : List Interface) (ys : List ℕ) → slice_get nodes y ≡ Some a → AllByRecursion (λ s. text_of a ≢ s) (map text_of bs) → AllByRecursion (Numbered bs) ys → AllByRecursion (λ z. y ≢ z) ys
  number_apart y a bs [] at apart all = tt
  number_apart y a bs (z ∷ zs) at apart all = (
    λ same. text_apart (text_of a) bs all.0.1 all.0.0 apart all.0.3 (ap text_of (same_Some a all.0.0 (sym at ∙ ap (slice_get nodes) same ∙ all.0.2))),
    number_apart y a bs zs at apart all.1,
  )

  abbrev Counted : List ℕ → List Interface → Type 0
  Counted found bs = (ys : List ℕ) × AreDistinct ys × AllByRecursion (λ y. IsIn y found) ys × AllByRecursion (Numbered bs) ys × (sum_by of_rest ys ≡ sum (map size_of bs))

  count : (found : List ℕ) → AreBehind links index found → (bs : List Interface) → AllByRecursion (IsAncestor set i) bs → AllByRecursion (λ t. text_of i ≢ t) (map text_of bs) → AreDistinct (map text_of bs) → Counted found bs
  count found behind [] all others distinct = ([], tt, tt, tt, refl)
  count found behind (b ∷ bs) all others distinct =
      let more = count found behind bs all.1 others.1 distinct.1 in
      let at = ancestor_arrives w index i b here all.0 in
      let z = own_stands set new nodes numbers links composed w i own kept in
      let not_index : at.0 ≢ index = λ e. others.0 (ap text_of (same_Some i b (sym here ∙ sym (ap (slice_get nodes) e) ∙ at.2))) in
      let not_own : at.0 ≢ own = λ e. others.0 (sym z.2 ∙ ap text_of (same_Some z.0 b (sym z.1 ∙ sym (ap (slice_get nodes) e) ∙ at.2))) in
      let rest : (not (nat_eq at.0 index) && not (nat_eq at.0 own)) ≡ true =
      and_from (not (nat_eq at.0 index)) (not (nat_eq at.0 own)) (ap not (other_number at.0 index not_index)) (ap not (other_number at.0 own not_own)) in
      let size : of_rest at.0 ≡ size_of b = ap (λ t. cond t (counts (slice_get nodes at.0)) 0) rest ∙ ap counts at.2 in
      let sums = more.4 in (
        at.0 ∷ more.0,
        (number_apart at.0 b bs more.0 at.2 distinct.0 more.3, more.1),
        ((behind.each at.0).1 at.1, more.2),
        ((b, zero, at.2, refl), numbered_more b bs more.0 more.3),
        (let e : of_rest at.0 + sum_by of_rest more.0 ≡ size_of b + sum (map size_of bs) = omega (arith, size, sums) in sum_by-cons of_rest at.0 more.0 ∙ e ∙ sym (sum_by-cons (λ x. x) (size_of b) (map size_of bs))),
      )

  pub crowd_tells : (found : List ℕ) → AreBehind links index found → (3000 < counted_rest nodes index (kept_at i.id numbers) found + length i.contents) ↔ HasTooManyContents set i
  crowd_tells found behind =
      let same : counted_rest nodes index (kept_at i.id numbers) found ≡ sum_by of_rest found = ap (λ o. counted_rest nodes index o found) kept in (
        λ over.
            let p = pick found behind.distinct (λ y h. (behind.each y).0 h) in
            let sums = p.3 in
            (p.0, ancestors_of found p.0 p.1, (none_is_own found p.0 p.1, p.2), omega (arith, over, same, sums, sum_by-cons (λ x. x) (size_of i) (map size_of p.0))),
        λ (bs, all, distinct, over).
            let c = count found behind bs all distinct.0 distinct.1 in
            let most = sum_within of_rest c.0 found c.1 c.2 in
            let sums = c.4 in
            omega (arith, over, most, sums, same, sum_by-cons (λ x. x) (size_of i) (map size_of bs)),
      )

-- ---- contents that are counted one by one
module _ (nodes : List Interface) (index : ℕ) (own : Option ℕ) (numbers : List ℕ) (k y : ℕ) (low : k < length numbers) (is : get_or numbers k 0 ≡ y) where
  pub counted_more : (a : Interface) → is_rest_of index own y ≡ true → slice_get nodes y ≡ Some a → counted_rest nodes index own (take (k + 1) numbers) ≡ counted_rest nodes index own (take k numbers) + length a.contents
  counted_more a rest at =
      sum_by_more (λ z. cond (is_rest_of index own z) (counts (slice_get nodes z)) 0) numbers k 0 low
      ∙ ap (λ n. counted_rest nodes index own (take k numbers) + n) (ap (λ z. cond (is_rest_of index own z) (counts (slice_get nodes z)) 0) is ∙ ap (λ t. cond t (counts (slice_get nodes y)) 0) rest ∙ ap counts at)

  pub counted_same : is_rest_of index own y ≡ false → counted_rest nodes index own (take (k + 1) numbers) ≡ counted_rest nodes index own (take k numbers)
  counted_same rest =
      let e : counted_rest nodes index own (take k numbers) + 0 ≡ counted_rest nodes index own (take k numbers) = omega arith in
      sum_by_more (λ z. cond (is_rest_of index own z) (counts (slice_get nodes z)) 0) numbers k 0 low
      ∙ ap (λ n. counted_rest nodes index own (take k numbers) + n) (ap (λ z. cond (is_rest_of index own z) (counts (slice_get nodes z)) 0) is ∙ ap (λ t. cond t (counts (slice_get nodes y)) 0) rest)
      ∙ e

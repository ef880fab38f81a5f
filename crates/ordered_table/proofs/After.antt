-- The next entry past a key: in the row of its text, or the first of the rows past it.
use Rattle.std.proofs.Common.{◌≡◌, ℕ, List, [], ◌∷◌, ◌++◌, Bool, true, false, cond, Option, Some, refl, sym, ap, ◌∙◌, subst, Ordering, Less, Equal, Greater, is_eq}
use Rattle.std.specs.Option.{option_or, option_map, unwrap_or}
use Rattle.std.specs.Ordering.{ordering_then, is_lt}
use Rattle.std.specs.List.{AllByRecursion, filter, find}
use Rattle.std.specs.List.Sorted.{IsStrictlySortedBy}
use Rattle.std.specs.Map.{lookup, keys_of}
use Rattle.std.specs.BTreeMap.{is_at}
use Rattle.std.proofs.lemmas.Map.Keys.{sorted_head, sorted_tail}
use Rattle.std.proofs.lemmas.Map.Lookups.{exact_bytes}
use Rattle.ordered_table.specs.Rows.{pair_cmp, under, flat}
use Rattle.ordered_table.proofs.Flat.{C, c_total, none_below}
use Rattle.ordered_table.proofs.Kept.{all_less}

-- the first that a test keeps is the first that it finds
pub find-filter : {X : Type 0} (p : X → Bool) (xs : List X) → find (λ _. true) (filter p xs) ≡ find p xs
find-filter p [] = refl
find-filter p (x ∷ xs) =
    elim (p x) as (λ b. find (λ _. true) (cond b (x ∷ filter p xs) (filter p xs)) ≡ cond b (Some x) (find p xs)) [
      | true ↦ refl
      | false ↦ find-filter p xs
    ]

all_past : {X : Type 0} (at : List ℕ) (rs : List (List ℕ × X)) → AllByRecursion (λ q. C at q ≡ Less) (keys_of rs) → filter (λ r. is_lt (C at r.0)) rs ≡ rs
all_past at [] a = refl
all_past at (r ∷ rs) a = ap (λ o. cond (is_lt o) (r ∷ filter (λ x. is_lt (C at x.0)) rs) (filter (λ x. is_lt (C at x.0)) rs)) a.0 ∙ ap (λ xs. r ∷ xs) (all_past at rs a.1)

past_same : (at q : List ℕ) (ks : List (List ℕ)) → at ≡ q → AllByRecursion (λ x. C q x ≡ Less) ks → AllByRecursion (λ x. C at x ≡ Less) ks
past_same at q ks h a = subst (λ t. AllByRecursion (λ x. C t x ≡ Less) ks) (sym h) a

module _ {K V : Type 0} (R : K → K → Ordering) where
  abbrev is_past : List ℕ → K → (List ℕ × K) × V → Bool
  is_past at k e = is_lt (pair_cmp R (at, k) e.0)

  -- all rows past a text
  first_past : (at : List ℕ) (k : K) (rs : List (List ℕ × List (K × V))) → AllByRecursion (λ q. C at q ≡ Less) (keys_of rs) → find (is_past at k) (flat rs) ≡ find (λ _. true) (flat rs)
  first_past at k [] a = refl
  first_past at k ((q, []) ∷ rs) a = first_past at k rs a.1
  first_past at k ((q, e ∷ es) ∷ rs) a = ap (λ o. cond (is_lt (ordering_then o (R k e.0))) (Some ((q, e.0), e.1)) (find (is_past at k) (under q es ++ flat rs))) a.0

  -- the row of the text itself
  in_row : (at q : List ℕ) (k : K) (row : List (K × V)) (xs : List ((List ℕ × K) × V)) → C at q ≡ Equal
      → find (is_past at k) (under q row ++ xs) ≡ option_or (option_map (λ e. ((q, e.0), e.1)) (find (λ e. is_lt (R k e.0)) row)) (find (is_past at k) xs)
  in_row at q k [] xs h = refl
  in_row at q k (e ∷ es) xs h =
      ap (λ o. cond (is_lt (ordering_then o (R k e.0))) (Some ((q, e.0), e.1)) (find (is_past at k) (under q es ++ xs))) h
      ∙ elim (is_lt (R k e.0)) as (λ b. cond b (Some ((q, e.0), e.1)) (find (is_past at k) (under q es ++ xs))
      ≡ option_or (option_map (λ (x : K × V). ((q, x.0), x.1)) (cond b (Some e) (find (λ x. is_lt (R k x.0)) es))) (find (is_past at k) xs)) [
        | true ↦ refl
        | false ↦ in_row at q k es xs h
      ]

  before_row : (at q : List ℕ) (k : K) (row : List (K × V)) (xs : List ((List ℕ × K) × V)) → C at q ≡ Greater → find (is_past at k) (under q row ++ xs) ≡ find (is_past at k) xs
  before_row at q k [] xs h = refl
  before_row at q k (e ∷ es) xs h =
      ap (λ o. cond (is_lt (ordering_then o (R k e.0))) (Some ((q, e.0), e.1)) (find (is_past at k) (under q es ++ xs))) h ∙ before_row at q k es xs h

  abbrev next_of : List ℕ → K → Option (List (K × V)) → List (List ℕ × List (K × V)) → Option ((List ℕ × K) × V)
  next_of at k row rest = option_or (option_map (λ e. ((at, e.0), e.1)) (find (λ e. is_lt (R k e.0)) (unwrap_or row []))) (find (λ _. true) (flat rest))

  pub next-flat : (at : List ℕ) (k : K) (rs : List (List ℕ × List (K × V))) → IsStrictlySortedBy C (keys_of rs)
      → find (is_past at k) (flat rs) ≡ next_of at k (lookup (is_at (C at)) rs) (filter (λ r. is_lt (C at r.0)) rs)
  next-flat at k [] s = refl
  next-flat at k (r ∷ rs) s =
      let later = filter (λ x. is_lt (C at x.0)) rs in
      let head = sorted_head C r.0 (keys_of rs) s in
      elim (C at r.0) as (λ o. C at r.0 ≡ o → find (is_past at k) (under r.0 r.1 ++ flat rs) ≡ next_of at k (cond (is_eq o) (Some r.1) (lookup (is_at (C at)) rs)) (cond (is_lt o) (r ∷ later) later)) [
        | Less ↦ λ h.
            let all = all_less c_total at r.0 h (keys_of rs) head in
            first_past at k (r ∷ rs) (h, all)
            ∙ ap (λ xs. find (λ _. true) (flat (r ∷ xs))) (sym (all_past at rs all))
            ∙ ap (λ row. next_of at k row (r ∷ later)) (sym (sym (ap (λ o. cond (is_eq o) (Some r.1) (lookup (is_at (C at)) rs)) h) ∙ none_below R at r rs s h))
        | Equal ↦ λ h.
            let same : at ≡ r.0 = exact_bytes at r.0 h in
            in_row at r.0 k r.1 (flat rs) h
            ∙ ap (λ t. option_or (option_map (λ (e : K × V). ((t, e.0), e.1)) (find (λ e. is_lt (R k e.0)) r.1)) (find (is_past at k) (flat rs))) (sym same)
            ∙ ap (option_or (option_map (λ (e : K × V). ((at, e.0), e.1)) (find (λ e. is_lt (R k e.0)) r.1)))
            (first_past at k rs (past_same at r.0 (keys_of rs) same head) ∙ ap (λ xs. find (λ _. true) (flat xs)) (sym (all_past at rs (past_same at r.0 (keys_of rs) same head))))
        | Greater ↦ λ h. before_row at r.0 k r.1 (flat rs) h ∙ next-flat at k rs (sorted_tail C r.0 (keys_of rs) s)
      ] refl

-- How many steps lead on from numbers, as it is found out.
use Rattle.std.proofs.Common.{◌≡◌, ◌≢◌, ℕ, zero, suc, ◌+◌, ◌<◌, ◌≤◌, ◌⊎◌, inl, inr, List, [], ◌∷◌, ◌++◌, Bool, true, false, cond, ◌||◌, max, take, drop, replicate, length, get_or, set, nat_eq, Option, Some, None, refl, sym, ap, ◌∙◌, subst, true≢false, append-nil, append_assoc, length-append, length-set, arith}
use Rattle.std.specs.Prelude.{IsSome}
use Rattle.std.specs.List.{AllByRecursion, IsDistinct, list_any}
use Rattle.std.specs.Option.{is_some, option_and_then}
use Rattle.std.proofs.Math.Seq.{take-length}
use Rattle.std.proofs.lemmas.Cmp.{nat_eq_equiv}
use Rattle.std.proofs.lemmas.List.{get_or-set_same, get_or-set_other, take-append-le, take-append-drop, take_more}
use Rattle.std.proofs.lemmas.Map.Keys.{IsDistinct-push}
use Rattle.std.proofs.lemmas.Map.Steps.{length-le_from_distinct_below}
use Rattle.std.proofs.lemmas.Option.{none-some, same_Some}
use Rattle.extend_resolve.specs.Machinery.Links.{IsIn, links_at, IsWay, AreLinksWithin}
use Rattle.extend_resolve.specs.Machinery.Worlds.{DepthAt, AreDepths}
use Rattle.extend_resolve.specs.Machinery.Deepening.{depth_over, IsOut, IsDeepening, Grows, IsTried, with_child, LeadBack}
use Rattle.extend_resolve.proofs.Opening.{equal_numbers, same_number, in_left, in_last, all_in, all_from, all_push, all_map}
use Rattle.extend_resolve.proofs.Within.{at_most}

-- ---- numbers that are in a list or not
in_or_last : (x c : ℕ) (xs : List ℕ) → IsIn x (xs ++ c ∷ []) → IsIn x xs ⊎ (x ≡ c)
in_or_last x c [] h =
    elim (nat_eq x c) as (λ b. nat_eq x c ≡ b → (b || false) ≡ true → IsIn x [] ⊎ (x ≡ c)) [
      | true ↦ λ e _. inr (equal_numbers x c e)
      | false ↦ λ _ h. absurd (true≢false (sym h))
    ] refl h
in_or_last x c (y ∷ ys) h =
    elim (nat_eq x y) as (λ b. (b || list_any (nat_eq x) (ys ++ c ∷ [])) ≡ true → ((b || list_any (nat_eq x) ys) ≡ true) ⊎ (x ≡ c)) [
      | true ↦ λ _. inl refl
      | false ↦ λ h. in_or_last x c ys h
    ] h

in_or_out : (x : ℕ) (xs : List ℕ) → IsIn x xs ⊎ IsOut x xs
in_or_out x xs = elim (list_any (nat_eq x) xs) as (λ b. (b ≡ true) ⊎ (b ≡ false)) [ true ↦ inl refl | false ↦ inr refl ]

not_both : (x : ℕ) (xs : List ℕ) → IsIn x xs → IsOut x xs → ⊥
not_both x xs here out = true≢false (sym here ∙ out)

out_left : (x : ℕ) (xs ys : List ℕ) → IsOut x (xs ++ ys) → IsOut x xs
out_left x xs ys out =
    elim (in_or_out x xs) [
      | inl here ↦ absurd (not_both x (xs ++ ys) (in_left x xs ys here) out)
      | inr out ↦ out
    ]

out_push : (x c : ℕ) (xs : List ℕ) → IsOut x xs → nat_eq x c ≡ false → IsOut x (xs ++ c ∷ [])
out_push x c xs out apart =
    elim (in_or_out x (xs ++ c ∷ [])) [
      | inr out ↦ out
      | inl here ↦ elim (in_or_last x c xs here) [
        | inl old ↦ absurd (not_both x xs old out)
        | inr same ↦ absurd (true≢false (sym (same_number x) ∙ ap (nat_eq x) same ∙ apart))
      ]
    ]

out_take : (x k : ℕ) (xs : List ℕ) → IsOut x xs → IsOut x (take k xs)
out_take x k xs out = out_left x (take k xs) (drop k xs) (subst (IsOut x) (sym (take-append-drop k xs)) out)

apart_numbers : (x y : ℕ) → nat_eq x y ≡ false → x ≢ y
apart_numbers x y e same = true≢false (sym (same_number x) ∙ ap (nat_eq x) same ∙ e)

-- ---- elements of which one was set
module _ {X : Type 0} (xs : List X) (k : ℕ) (v d : X) (low : k < length xs) where
  set_cases : (j : ℕ) → ((j ≡ k) × (get_or (set xs k v) j d ≡ v)) ⊎ ((nat_eq j k ≡ false) × (get_or (set xs k v) j d ≡ get_or xs j d))
  set_cases j =
      elim (nat_eq j k) as (λ b. nat_eq j k ≡ b → ((j ≡ k) × (get_or (set xs k v) j d ≡ v)) ⊎ ((b ≡ false) × (get_or (set xs k v) j d ≡ get_or xs j d))) [
        | true ↦ λ e. let same : j ≡ k = equal_numbers j k e in inl (same, ap (λ n. get_or (set xs k v) n d) same ∙ get_or-set_same xs k v d low)
        | false ↦ λ e. inr (refl, get_or-set_other xs k j v d (apart_numbers j k e))
      ] refl

-- a slice that was lent, given back whole
pub given_back : {X : Type 0} (len : ℕ) (now was : List X) → length now ≡ length was → len ≡ length was → take len (now ++ drop (length now) was) ≡ now
given_back len now was same is =
    let most : len ≤ length now = omega (arith, same, is) in
    let whole : len ≡ length now = omega (arith, same, is) in
    take-append-le len now (drop (length now) was) most ∙ ap (λ n. take n now) whole ∙ take-length now

-- ---- the links turned round
module _ (child : ℕ) where
  abbrev AreLow : List (List ℕ) → List ℕ → Type 0
  AreLow children ys = AllByRecursion (λ y. y < length children) ys

  abbrev with_one : List (List ℕ) → ℕ → List (List ℕ)
  with_one children y = set children y (links_at children y ++ child ∷ [])

  low_still : (children : List (List ℕ)) (z : ℕ) (ys : List ℕ) → AreLow children ys → AreLow (with_one children z) ys
  low_still children z ys low = subst (λ n. AllByRecursion (λ y. y < n) ys) (sym (length-set children z (links_at children z ++ child ∷ []))) low

  pub length_child : (children : List (List ℕ)) (ys : List ℕ) → length (with_child children child ys) ≡ length children
  length_child children [] = refl
  length_child children (y ∷ ys) = length_child (with_one children y) ys ∙ length-set children y (links_at children y ++ child ∷ [])

  one_still : (children : List (List ℕ)) (z y x : ℕ) → z < length children → IsIn x (links_at children y) → IsIn x (links_at (with_one children z) y)
  one_still children z y x low here =
      elim (set_cases children z (links_at children z ++ child ∷ []) [] low y) [
        | inl s ↦ subst (IsIn x) (sym s.1) (in_left x (links_at children z) (child ∷ []) (subst (λ n. IsIn x (links_at children n)) s.0 here))
        | inr s ↦ subst (IsIn x) (sym s.1) here
      ]

  child_still : (children : List (List ℕ)) (ys : List ℕ) (y x : ℕ) → AreLow children ys → IsIn x (links_at children y) → IsIn x (links_at (with_child children child ys) y)
  child_still children [] y x low here = here
  child_still children (z ∷ zs) y x low here =
      child_still (with_one children z) zs y x (low_still children z zs low.1) (one_still children z y x low.0 here)

  child_there : (children : List (List ℕ)) (ys : List ℕ) (y : ℕ) → AreLow children ys → IsIn y ys → IsIn child (links_at (with_child children child ys) y)
  child_there children [] y low here = absurd (true≢false (sym here))
  child_there children (z ∷ zs) y low here =
      elim (nat_eq y z) as (λ b. nat_eq y z ≡ b → (b || list_any (nat_eq y) zs) ≡ true → IsIn child (links_at (with_child (with_one children z) child zs) y)) [
        | true ↦ λ e _.
            let put : IsIn child (links_at (with_one children z) z) =
            subst (IsIn child) (sym (get_or-set_same children z (links_at children z ++ child ∷ []) [] low.0)) (in_last child (links_at children z)) in
            child_still (with_one children z) zs y child (low_still children z zs low.1) (subst (λ n. IsIn child (links_at (with_one children z) n)) (sym (equal_numbers y z e)) put)
        | false ↦ λ _ h. child_there (with_one children z) zs y (low_still children z zs low.1) h
      ] refl here

  child_from : (children : List (List ℕ)) (ys : List ℕ) (y x : ℕ) → AreLow children ys → IsIn x (links_at (with_child children child ys) y) → IsIn x (links_at children y) ⊎ (x ≡ child)
  child_from children [] y x low here = inl here
  child_from children (z ∷ zs) y x low here =
      elim (child_from (with_one children z) zs y x (low_still children z zs low.1) here) [
        | inr same ↦ inr same
        | inl before ↦ elim (set_cases children z (links_at children z ++ child ∷ []) [] low.0 y) [
          | inr s ↦ inl (subst (IsIn x) s.1 before)
          | inl s ↦ elim (in_or_last x child (links_at children z) (subst (IsIn x) s.1 before)) [
            | inr same ↦ inr same
            | inl old ↦ inl (subst (λ n. IsIn x (links_at children n)) (sym s.0) old)
          ]
        ]
      ]

empty_at : (lists : List (List ℕ)) (y : ℕ) → AllByRecursion (λ l. l ≡ []) lists → links_at lists y ≡ []
empty_at [] y all = refl
empty_at (l ∷ ls) zero all = all.0
empty_at (l ∷ ls) (suc y) all = empty_at ls y all.1

module _ (links : List (List ℕ)) where
  pub back_begins : (children : List (List ℕ)) → length children ≡ length links → AllByRecursion (λ l. l ≡ []) children → LeadBack links children 0
  back_begins children same empty = record {
    same = same;
    below = λ y x here. absurd (true≢false (sym (subst (IsIn x) (empty_at children y empty) here)));
    back = λ x y low. absurd (omega (arith, low));
  }

  pub low_links : AreLinksWithin links → (children : List (List ℕ)) (at : ℕ) → length children ≡ length links → AllByRecursion (λ y. y < length children) (links_at links at)
  low_links within children at same = all_from (λ y. y < length children) (links_at links at) (λ y link. subst (λ n. y < n) (sym same) (within at y link))

  pub back_step : AreLinksWithin links → (children : List (List ℕ)) (at : ℕ) → at < length links → LeadBack links children at
      → LeadBack links (with_child children at (links_at links at)) (at + 1)
  back_step within children at low so_far =
      let all : AllByRecursion (λ y. y < length children) (links_at links at) = low_links within children at so_far.same in
      record {
        same = length_child at children (links_at links at) ∙ so_far.same;
        below = λ y x here. elim (child_from at children (links_at links at) y x all here) [
          | inl old ↦ so_far.below y x old
          | inr same ↦ subst (λ n. n < length links) (sym same) low
        ];
        back = λ x y early link. elim (nat_eq x at) as (λ b. nat_eq x at ≡ b → IsIn x (links_at (with_child children at (links_at links at)) y)) [
          | true ↦ λ e.
              let same : x ≡ at = equal_numbers x at e in
              subst (λ n. IsIn n (links_at (with_child children at (links_at links at)) y)) (sym same) (child_there at children (links_at links at) y all (subst (λ n. IsIn y (links_at links n)) same link))
          | false ↦ λ e.
              let apart : x ≢ at = apart_numbers x at e in
              child_still at children (links_at links at) y x all (so_far.back x y (omega (arith, early, apart)) link)
        ] refl;
      }

-- ---- the steps over the links of a number
module _ (depths : List (Option ℕ)) where
  in_head : (y : ℕ) (ys : List ℕ) → IsIn y (y ∷ ys)
  in_head y ys = ap (λ b. b || list_any (nat_eq y) ys) (same_number y)

  in_tail : (z y : ℕ) (ys : List ℕ) → IsIn z ys → IsIn z (y ∷ ys)
  in_tail z y ys h = elim (nat_eq z y) as (λ b. (b || list_any (nat_eq z) ys) ≡ true) [ true ↦ refl | false ↦ h ]

  over_none : (most : ℕ) (ys : List ℕ) → depth_over depths most ys ≡ None → (y : ℕ) × IsIn y ys × (get_or depths y None ≡ None)
  over_none most [] h = absurd (none-some most (sym h))
  over_none most (y ∷ ys) h =
      elim (get_or depths y None) as (λ o. get_or depths y None ≡ o → option_and_then (λ d. depth_over depths (max most (d + 1)) ys) o ≡ None → (z : ℕ) × IsIn z (y ∷ ys) × (get_or depths z None ≡ None)) [
        | None ↦ λ e _. (y, in_head y ys, e)
        | Some d ↦ λ _ h. let r = over_none (max most (d + 1)) ys h in (r.0, in_tail r.0 y ys r.1, r.2)
      ] refl h

  -- a link from which one step less leads on
  abbrev IsReached : List ℕ → ℕ → Type 0
  IsReached ys m = (y e : ℕ) × IsIn y ys × (get_or depths y None ≡ Some e) × (m ≡ e + 1)

  record IsTop (most : ℕ) (ys : List ℕ) (m : ℕ) : Type 0 where
    least : most ≤ m
    each : (y : ℕ) → IsIn y ys → (e : ℕ) × (get_or depths y None ≡ Some e) × (e < m)
    reached : (m ≡ most) ⊎ IsReached ys m

  reached_more : (most d y : ℕ) (ys : List ℕ) (m : ℕ) → get_or depths y None ≡ Some d → (m ≡ max most (d + 1)) ⊎ IsReached ys m → (m ≡ most) ⊎ IsReached (y ∷ ys) m
  reached_more most d y ys m is (inr (z, e, here, told, same)) = inr (z, e, in_tail z y ys here, told, same)
  reached_more most d y ys m is (inl same) =
      elim (at_most most (d + 1)) [
        | inl low ↦ inl (omega (arith, same, low))
        | inr high ↦ inr (y, d, in_head y ys, is, omega (arith, same, high))
      ]

  over_some : (most : ℕ) (ys : List ℕ) (m : ℕ) → depth_over depths most ys ≡ Some m → IsTop most ys m
  over_some most [] m h =
      let same : most ≡ m = same_Some most m h in
      record { least = omega (arith, same); each = λ y here. absurd (true≢false (sym here)); reached = inl (sym same) }
  over_some most (y ∷ ys) m h =
      elim (get_or depths y None) as (λ o. get_or depths y None ≡ o → option_and_then (λ d. depth_over depths (max most (d + 1)) ys) o ≡ Some m → IsTop most (y ∷ ys) m) [
        | None ↦ λ _ h. absurd (none-some m h)
        | Some d ↦ λ is h.
            let rest : IsTop (max most (d + 1)) ys m = over_some (max most (d + 1)) ys m h in
            let high : max most (d + 1) ≤ m = rest.least in
            record {
              least = omega (arith, high);
              each = λ z here. elim (nat_eq z y) as (λ b. nat_eq z y ≡ b → (b || list_any (nat_eq z) ys) ≡ true → (e : ℕ) × (get_or depths z None ≡ Some e) × (e < m)) [
                | true ↦ λ e _. (d, ap (λ n. get_or depths n None) (equal_numbers z y e) ∙ is, omega (arith, high))
                | false ↦ λ _ h. rest.each z h
              ] refl here;
              reached = reached_more most d y ys m is rest.reached;
            }
      ] refl h

some_within : (depths : List (Option ℕ)) (k : ℕ) → IsSome (get_or depths k None) → k < length depths
some_within [] k h = absurd (true≢false (sym h))
some_within (o ∷ os) zero h = omega arith
some_within (o ∷ os) (suc k) h = let low : k < length os = some_within os k h in omega (arith, low)

none_at : (n k : ℕ) → get_or (replicate n (let none : Option ℕ = None in none)) k None ≡ None
none_at zero k = refl
none_at (suc n) zero = refl
none_at (suc n) (suc k) = none_at n k

-- ---- what is told so far
module _ (links : List (List ℕ)) where
  pub deepening_begins : (depths : List (Option ℕ)) → depths ≡ replicate (length links) None → length depths ≡ length links → IsDeepening links depths []
  unfolding IsDistinct
  deepening_begins depths all same = record {
    same = same;
    right = λ x d e. absurd (none-some d (sym (none_at (length links) x) ∙ sym (ap (λ os. get_or os x None) all) ∙ e));
    told = λ x here. absurd (true≢false (sym here));
    distinct = tt;
  }

  module _ (depths : List (Option ℕ)) (ended : List ℕ) (so_far : IsDeepening links depths ended) where
    pub ended_below : (x : ℕ) → IsIn x ended → x < length links
    ended_below x here = subst (λ n. x < n) so_far.same (some_within depths x (so_far.told x here))

    pub deepening_fits : length ended ≤ length links
    deepening_fits = length-le_from_distinct_below ended (length links) so_far.distinct ended_below

    untold_if_out : (x : ℕ) → IsOut x ended → get_or depths x None ≡ None
    untold_if_out x out =
        elim (get_or depths x None) as (λ o. get_or depths x None ≡ o → o ≡ None) [
          | None ↦ λ _. refl
          | Some d ↦ λ e. absurd (not_both x ended (so_far.right x d e).2 out)
        ] refl

    out_if_untold : (x : ℕ) → is_some (get_or depths x None) ≡ false → IsOut x ended
    out_if_untold x none =
        elim (in_or_out x ended) [
          | inr out ↦ out
          | inl here ↦ absurd (true≢false (sym (so_far.told x here) ∙ none))
        ]

    pub tried_told : (x : ℕ) → is_some (get_or depths x None) ≡ true → IsTried links ended ended x
    tried_told x some out = absurd (true≢false (sym some ∙ ap is_some (untold_if_out x out)))

    pub tried_stuck : (x : ℕ) → depth_over depths 0 (links_at links x) ≡ None → IsTried links ended ended x
    tried_stuck x stuck out = let y = over_none depths 0 (links_at links x) stuck in (y.0, y.1, out_if_untold y.0 (ap is_some y.2))

    most_from : (x m : ℕ) → IsTop depths 0 (links_at links x) m → (ys : List ℕ) → IsWay links x ys → length ys ≤ m
    most_from x m top [] way = omega arith
    most_from x m top (y ∷ ys) (link, way) =
        let e = top.each y link in
        let rest : length ys ≤ e.0 = (so_far.right y e.0 e.1).0.1 ys way in
        omega (arith, rest, e.2)

    way_from : (x m : ℕ) → (m ≡ 0) ⊎ IsReached depths (links_at links x) m → (ys : List ℕ) × IsWay links x ys × (length ys ≡ m)
    way_from x m (inl none) = ([], tt, sym none)
    way_from x m (inr (y, e, link, told, same)) =
        let rest = (so_far.right y e told).0.0 in
        (y ∷ rest.0, (link, rest.1), omega (arith, rest.2, same))

    fresh : (x m : ℕ) → (m ≡ 0) ⊎ IsReached depths (links_at links x) m → m < length ended + 1
    fresh x m (inl none) = omega (arith, none)
    fresh x m (inr (y, e, link, told, same)) = let low : e < length ended = (so_far.right y e told).1 in omega (arith, low, same)

    module _ (x m : ℕ) (low : x < length links) (untold : is_some (get_or depths x None) ≡ false) (over : depth_over depths 0 (links_at links x) ≡ Some m) where
      top : IsTop depths 0 (links_at links x) m
      top = over_some depths 0 (links_at links x) m over

      depth : DepthAt links x (Some m)
      depth = (way_from x m top.reached, most_from x m top)

      inside : x < length depths
      inside = subst (λ n. x < n) (sym so_far.same) low

      longer : length (ended ++ x ∷ []) ≡ length ended + 1
      longer = length-append ended (x ∷ [])

      right : (z d : ℕ) → get_or (set depths x (Some m)) z None ≡ Some d → DepthAt links z (Some d) × (d < length (ended ++ x ∷ [])) × IsIn z (ended ++ x ∷ [])
      right z d is =
          elim (set_cases depths x (Some m) None inside z) [
            | inl s ↦
                let same : m ≡ d = same_Some m d (sym s.1 ∙ is) in
                let small : m < length ended + 1 = fresh x m top.reached in (
                  subst (λ n. DepthAt links n (Some d)) (sym s.0) (subst (λ n. DepthAt links x (Some n)) same depth),
                  omega (arith, same, small, longer),
                  subst (λ n. IsIn n (ended ++ x ∷ [])) (sym s.0) (in_last x ended),
                )
            | inr s ↦
                let old = so_far.right z d (sym s.1 ∙ is) in
                (old.0, omega (arith, old.1, longer), in_left z ended (x ∷ []) old.2)
          ]

      told : (z : ℕ) → IsIn z (ended ++ x ∷ []) → IsSome (get_or (set depths x (Some m)) z None)
      told z here =
          elim (set_cases depths x (Some m) None inside z) [
            | inl s ↦ ap is_some s.1
            | inr s ↦ elim (in_or_last z x ended here) [
              | inl old ↦ ap is_some s.1 ∙ so_far.told z old
              | inr same ↦ absurd (apart_numbers z x s.0 same)
            ]
          ]

      pub deepening_step : IsDeepening links (set depths x (Some m)) (ended ++ x ∷ [])
      deepening_step = record {
        same = length-set depths x (Some m) ∙ so_far.same;
        right = right;
        told = told;
        distinct = IsDistinct-push nat_eq_equiv ended x so_far.distinct (out_if_untold x untold);
      }

    -- from a number that is not told, where each such has a link to another, lead ways of every length
    endless : AreLinksWithin links → ((x : ℕ) → x < length links → IsTried links ended ended x) → (d x : ℕ) → x < length links → IsOut x ended → (ys : List ℕ) × IsWay links x ys × (length ys ≡ d)
    endless within tried zero x low out = ([], tt, refl)
    endless within tried (suc d) x low out =
        let y = tried x low out in
        let more = endless within tried d y.0 (within x y.0 y.1) y.2 in
        (y.0 ∷ more.0, (y.1, more.1), ap suc more.2)

    pub depths_told : AreLinksWithin links → ((x : ℕ) → x < length links → IsTried links ended ended x) → AreDepths links depths
    depths_told within tried = record {
      same = so_far.same;
      each = λ x low. elim (get_or depths x None) as (λ o. get_or depths x None ≡ o → DepthAt links x o) [
        | None ↦ λ e d. endless within tried d x low (out_if_untold x (ap is_some e))
        | Some d ↦ λ e. (so_far.right x d e).0
      ] refl;
    }

  -- ---- the numbers that were tried
  pub tried_ended : (done ended : List ℕ) (x : ℕ) → IsTried links done (ended ++ x ∷ []) x
  tried_ended done ended x out = absurd (not_both x (ended ++ x ∷ []) (in_last x ended) out)

  tried_later : (done before now : List ℕ) (x : ℕ) → Grows before now → IsTried links done before x → IsTried links done now x
  tried_later done before now x (more, grown) tried out = tried (out_left x before more (subst (IsOut x) grown out))

  tried_sooner : (before now ended : List ℕ) (x : ℕ) → Grows before now → IsTried links now ended x → IsTried links before ended x
  tried_sooner before now ended x (more, grown) tried out = let y = tried out in (y.0, y.1, out_left y.0 before more (subst (IsOut y.0) grown y.2))

  pub grows_not : (xs : List ℕ) → Grows xs xs
  grows_not xs = ([], sym (append-nil xs))

  pub grows_trans : (xs ys zs : List ℕ) → Grows xs ys → Grows ys zs → Grows xs zs
  grows_trans xs ys zs (a, e) (b, f) = (a ++ b, f ∙ ap (λ l. l ++ b) e ∙ append_assoc xs a b)

  -- one more of a list
  pub all_tried_more : (first before now : List ℕ) (xs : List ℕ) (k : ℕ) (x : ℕ) → k < length xs → x ≡ get_or xs k 0 → Grows first before → Grows before now
      → AllByRecursion (IsTried links first before) (take k xs) → IsTried links before now x → AllByRecursion (IsTried links first now) (take (k + 1) xs)
  all_tried_more first before now xs k x low is grown grows all one =
      let step : take (k + 1) xs ≡ take k xs ++ x ∷ [] = take_more xs k 0 low ∙ ap (λ y. take k xs ++ y ∷ []) (sym is) in
      let old : AllByRecursion (IsTried links first now) (take k xs) =
      all_map (IsTried links first before) (IsTried links first now) (take k xs) (λ y h. tried_later first before now y grows h) all in
      subst (AllByRecursion (IsTried links first now)) (sym step) (all_push (IsTried links first now) (take k xs) x old (tried_sooner first before now x grown one))

  -- one more of all numbers
  pub first_tried : (before now : List ℕ) (n : ℕ) → Grows before now → ((x : ℕ) → x < n → IsTried links [] before x) → IsTried links before now n → (x : ℕ) → x < n + 1 → IsTried links [] now x
  first_tried before now n grows all one x low =
      elim (nat_eq x n) as (λ b. nat_eq x n ≡ b → IsTried links [] now x) [
        | true ↦ λ e. subst (IsTried links [] now) (sym (equal_numbers x n e)) (tried_sooner [] before now n (before, refl) one)
        | false ↦ λ e. let apart : x ≢ n = apart_numbers x n e in tried_later [] before now x grows (all x (omega (arith, low, apart)))
      ] refl

  -- the numbers with a link to one more that is told were tried
  pub rise_step : (children : List (List ℕ)) → LeadBack links children (length links) → (before now : List ℕ) (at : ℕ) → at < length before → Grows before now
      → ((x : ℕ) → x < length links → IsTried links (take at before) before x)
      → AllByRecursion (IsTried links before now) (links_at children (get_or before at 0))
      → (x : ℕ) → x < length links → IsTried links (take (at + 1) now) now x
  rise_step children turned before now at low grows tried all x below out =
      let next : ℕ = get_or before at 0 in
      let y = tried x below (out_left x before grows.0 (subst (IsOut x) grows.1 out)) in
      let same : take (at + 1) now ≡ take (at + 1) before = ap (take (at + 1)) grows.1 ∙ take-append-le (at + 1) before grows.0 (omega (arith, low)) in
      elim (nat_eq y.0 next) as (λ b. nat_eq y.0 next ≡ b → (z : ℕ) × IsIn z (links_at links x) × IsOut z (take (at + 1) now)) [
        | true ↦ λ e.
            let back : IsIn x (links_at children next) = subst (λ n. IsIn x (links_at children n)) (equal_numbers y.0 next e) (turned.back x y.0 below y.1) in
            let z = all_in (IsTried links before now) (links_at children next) x all back out in
            (z.0, z.1, subst (IsOut z.0) (sym same) (out_take z.0 (at + 1) before z.2))
        | false ↦ λ e. (y.0, y.1, subst (IsOut y.0) (sym (same ∙ take_more before at 0 low)) (out_push y.0 next (take at before) y.2 e))
      ] refl

-- What the owners tell of names, as they are added.
use Rattle.std.proofs.Common.{◌≡◌, ◌≢◌, ◌↔◌, ℕ, ◌+◌, ◌<◌, ◌≤◌, ◌⊎◌, inl, inr, List, [], ◌∷◌, Bool, true, false, cond, ◌||◌, ◌&&◌, length, get_or, set, nat_eq, not, refl, sym, ap, ◌∙◌, subst, true≢false, arith, get_or-set_same, get_or-set_other, length-set}
use Rattle.std.specs.List.{AllByRecursion, list_any}
use Rattle.std.proofs.lemmas.Bool.{cases_eq}
use Rattle.extend_resolve.specs.declared.owners.Owner.{Owner}
use Rattle.extend_resolve.specs.Machinery.Links.{IsIn, links_at}
use Rattle.extend_resolve.specs.Machinery.Owners.{nobody, has_other_owner, with_owner, other_at, add_owner, add_names, add_reached, any_reached, Knows, AreFresh}
use Rattle.extend_resolve.proofs.Members.{equal_numbers, same_number, other_number, in_head, in_tail, in_cons, any_found, any_given, all_of}

-- another number
differs : (a b : ℕ) → not (nat_eq a b) ≡ true → a ≢ b
differs a b h e = true≢false (sym h ∙ ap not (same_number a b e))

differing : (a b : ℕ) → a ≢ b → not (nat_eq a b) ≡ true
differing a b h = ap not (other_number a b h)

and_left : (a b : Bool) → (a && b) ≡ true → a ≡ true
and_left true b h = refl
and_left false b h = h

-- The test over what it reads: whether it is of this round, whether there are several, and the first.
abbrev tests : Bool → Bool → ℕ → ℕ → Bool
tests now several n j = now && (several || not (nat_eq n j))

abbrev Tells : Bool → Bool → ℕ → (ℕ → Type 0) → Type 0
Tells now several n Q = (j : ℕ) → (tests now several n j ≡ true) ↔ ((p : ℕ) × Q p × (p ≢ j))

module _ (Q : ℕ → Type 0) (m : ℕ) where
  abbrev With : ℕ → Type 0
  With p = Q p ⊎ (p ≡ m)

  -- nothing was added in this round
  tells_first : (several : Bool) (n : ℕ) → Tells false several n Q → Tells true false m With
  tells_first several n so_far j = (
    λ h. (m, inr refl, differs m j h),
    λ x. elim x.1 [
      | inl q ↦ absurd (true≢false (sym ((so_far j).1 (x.0, q, x.2))))
      | inr e ↦ differing m j (subst (λ p. p ≢ j) e x.2)
    ],
  )

  tells_several : (b : Bool) (n : ℕ) → Tells true true n Q → Tells true (true || b) n With
  tells_several b n so_far j = (λ h. let one = (so_far j).0 refl in (one.0, inl one.1, one.2), λ x. refl)

  tells_same : (n : ℕ) → n ≡ m → Tells true false n Q → Tells true false n With
  tells_same n same so_far j = (
    λ h. let one = (so_far j).0 h in (one.0, inl one.1, one.2),
    λ x. elim x.1 [
      | inl q ↦ (so_far j).1 (x.0, q, x.2)
      | inr e ↦ differing n j (subst (λ p. p ≢ j) (e ∙ sym same) x.2)
    ],
  )

  tells_other : (n : ℕ) → n ≢ m → Tells true false n Q → Tells true true n With
  tells_other n apart so_far j = (
    λ h. elim (cases_eq m j) [
      | inl e ↦ let one = (so_far j).0 (differing n j (subst (λ k. n ≢ k) e apart)) in (one.0, inl one.1, one.2)
      | inr ne ↦ (m, inr refl, ne)
    ],
    λ x. refl,
  )

  tells_one : (n : ℕ) → Tells true false n Q → Tells true (not (nat_eq n m)) n With
  tells_one n so_far =
      elim (nat_eq n m) as (λ b. nat_eq n m ≡ b → Tells true (not b) n With) [
        | true ↦ λ e. tells_same n (equal_numbers n m e) so_far
        | false ↦ λ e. tells_other n (λ same. true≢false (sym (same_number n m same) ∙ e)) so_far
      ] refl

  tells_now : (several : Bool) (n : ℕ) → Tells true several n Q → Tells true (several || not (nat_eq n m)) n With
  tells_now true n so_far = tells_several (not (nat_eq n m)) n so_far
  tells_now false n so_far = tells_one n so_far

  tells_with : (o : Owner) (round : ℕ) → ((j : ℕ) → (has_other_owner o round j ≡ true) ↔ ((p : ℕ) × Q p × (p ≢ j)))
      → (j : ℕ) → (has_other_owner (with_owner o round m) round j ≡ true) ↔ ((p : ℕ) × With p × (p ≢ j))
  tells_with o round so_far =
      let now : nat_eq round round ≡ true = same_number round round refl in
      elim (nat_eq o.round round) as (λ b. Tells b o.several o.number Q
      → (j : ℕ) → (has_other_owner (cond b (record { round = round; number = o.number; several = o.several || not (nat_eq o.number m) }) (record { round = round; number = m; several = false })) round j ≡ true) ↔ ((p : ℕ) × With p × (p ≢ j))) [
        | true ↦ λ h. subst (λ b. Tells b (o.several || not (nat_eq o.number m)) o.number With) (sym now) (tells_now o.several o.number h)
        | false ↦ λ h. subst (λ b. Tells b false m With) (sym now) (tells_first o.several o.number h)
      ] so_far

-- ---- tables of owners
pub knows_weaker : (owners : List Owner) (round : ℕ) (P Q : ℕ → ℕ → Type 0) → ((x o : ℕ) → P x o → Q x o) → ((x o : ℕ) → Q x o → P x o) → Knows owners round P → Knows owners round Q
knows_weaker owners round P Q f g knows x m low = (
  λ h. let one = (knows x m low).0 h in (one.0, f x one.0 one.1, one.2),
  λ h. (knows x m low).1 (h.0, g x h.0 h.1, h.2),
)

module _ (round m : ℕ) where
  add_length : (owners : List Owner) (x : ℕ) → length (add_owner round m owners x) ≡ length owners
  add_length owners x = length-set owners x (with_owner (get_or owners x nobody) round m)

  knows_add : (P : ℕ → ℕ → Type 0) (owners : List Owner) (x : ℕ) → x < length owners → Knows owners round P → Knows (add_owner round m owners x) round (λ y o. P y o ⊎ ((y ≡ x) × (o ≡ m)))
  knows_add P owners x low knows y j high =
      let put : Owner = with_owner (get_or owners x nobody) round m in
      let within : y < length owners = subst (λ n. y < n) (add_length owners x) high in
      elim (cases_eq y x) [
        | inl e ↦
            let same : get_or (set owners x put) y nobody ≡ put = ap (λ k. get_or (set owners x put) k nobody) e ∙ get_or-set_same owners x put nobody low in
            let told = tells_with (P x) m (get_or owners x nobody) round (λ k. knows x k low) j in (
              λ h. let one = told.0 (sym (ap (λ o. has_other_owner o round j) same) ∙ h) in
                  (one.0, elim one.1 [ inl p ↦ inl (subst (λ k. P k one.0) (sym e) p) | inr q ↦ inr (e, q) ], one.2),
              λ z. ap (λ o. has_other_owner o round j) same ∙ told.1 (z.0, elim z.1 [ inl p ↦ inl (subst (λ k. P k z.0) e p) | inr q ↦ inr q.1 ], z.2),
            )
        | inr ne ↦
            let other : get_or (set owners x put) y nobody ≡ get_or owners y nobody = get_or-set_other owners x y put nobody ne in (
              λ h. let one = (knows y j within).0 (sym (ap (λ o. has_other_owner o round j) other) ∙ h) in (one.0, inl one.1, one.2),
              λ z. ap (λ o. has_other_owner o round j) other ∙ (knows y j within).1 (z.0, elim z.1 [ inl p ↦ p | inr q ↦ absurd (ne q.0) ], z.2),
            )
      ]

  all_longer : (owners : List Owner) (x : ℕ) (xs : List ℕ) → AllByRecursion (λ y. y < length owners) xs → AllByRecursion (λ y. y < length (add_owner round m owners x)) xs
  all_longer owners x xs all = subst (λ n. AllByRecursion (λ y. y < n) xs) (sym (add_length owners x)) all

  pub names_length : (owners : List Owner) (xs : List ℕ) → length (add_names round m owners xs) ≡ length owners
  names_length owners [] = refl
  names_length owners (x ∷ xs) = names_length (add_owner round m owners x) xs ∙ add_length owners x

  pub knows_names : (P : ℕ → ℕ → Type 0) (owners : List Owner) (xs : List ℕ) → AllByRecursion (λ x. x < length owners) xs → Knows owners round P
      → Knows (add_names round m owners xs) round (λ y o. P y o ⊎ (IsIn y xs × (o ≡ m)))
  knows_names P owners [] all knows = knows_weaker owners round P (λ y o. P y o ⊎ (IsIn y [] × (o ≡ m))) (λ y o p. inl p) (λ y o h. elim h [ inl p ↦ p | inr q ↦ absurd (true≢false (sym q.0)) ]) knows
  knows_names P owners (x ∷ xs) all knows =
      let first : ℕ → ℕ → Type 0 = λ y o. P y o ⊎ ((y ≡ x) × (o ≡ m)) in
      knows_weaker (add_names round m (add_owner round m owners x) xs) round (λ y o. first y o ⊎ (IsIn y xs × (o ≡ m))) (λ y o. P y o ⊎ (IsIn y (x ∷ xs) × (o ≡ m)))
      (λ y o h. elim h [
        | inl g ↦ elim g [ inl p ↦ inl p | inr q ↦ inr (subst (λ z. IsIn z (x ∷ xs)) (sym q.0) (in_head x xs), q.1) ]
        | inr q ↦ inr (in_tail x y xs q.0, q.1)
      ])
      (λ y o h. elim h [
        | inl p ↦ inl (inl p)
        | inr q ↦ elim (in_cons x y xs q.0) [ inl e ↦ inl (inr (e, q.1)) | inr t ↦ inr (t, q.1) ]
      ])
      (knows_names first (add_owner round m owners x) xs (all_longer owners x xs all.1) (knows_add P owners x all.0 knows))

  with_round : (o : Owner) → (with_owner o round m).round ≡ round
  with_round o = elim (nat_eq o.round round) as (λ b. (cond {A = Owner} b (record { round = round; number = o.number; several = o.several || not (nat_eq o.number m) }) (record { round = round; number = m; several = false })).round ≡ round) [ true ↦ refl | false ↦ refl ]

  fresh_add : (owners : List Owner) (x to : ℕ) → x < length owners → AreFresh owners (round + 1) to → AreFresh (add_owner round m owners x) (round + 1) to
  fresh_add owners x to low fresh y r high from below e =
      let put : Owner = with_owner (get_or owners x nobody) round m in
      elim (cases_eq y x) [
        | inl same ↦
            let is : round ≡ r = sym (with_round (get_or owners x nobody)) ∙ sym (ap (λ o. o.round) (ap (λ k. get_or (set owners x put) k nobody) same ∙ get_or-set_same owners x put nobody low)) ∙ e in
            omega (arith, is, from)
        | inr ne ↦ fresh y r (subst (λ n. y < n) (add_length owners x) high) from below (sym (ap (λ o. o.round) (get_or-set_other owners x y put nobody ne)) ∙ e)
      ]

  pub fresh_names : (owners : List Owner) (xs : List ℕ) (to : ℕ) → AllByRecursion (λ x. x < length owners) xs → AreFresh owners (round + 1) to → AreFresh (add_names round m owners xs) (round + 1) to
  fresh_names owners [] to all fresh = fresh
  fresh_names owners (x ∷ xs) to all fresh = fresh_names (add_owner round m owners x) xs to (all_longer owners x xs all.1) (fresh_add owners x to all.0 fresh)

-- ---- the names of several
module _ (declared : List (List ℕ)) (round : ℕ) where
  abbrev pub AreNamesBelow : ℕ → Type 0
  AreNamesBelow n = (y x : ℕ) → IsIn x (links_at declared y) → x < n

  names_below : (owners : List Owner) (m : ℕ) → AreNamesBelow (length owners) → AllByRecursion (λ x. x < length owners) (get_or declared m [])
  names_below owners m below = all_of (λ x. x < length owners) (get_or declared m []) (λ x h. below m x h)

  pub reached_length : (owners : List Owner) (ms : List ℕ) → length (add_reached declared round owners ms) ≡ length owners
  reached_length owners [] = refl
  reached_length owners (m ∷ ms) = reached_length (add_names round m owners (get_or declared m [])) ms ∙ names_length round m owners (get_or declared m [])

  still_below : (owners : List Owner) (m : ℕ) → AreNamesBelow (length owners) → AreNamesBelow (length (add_names round m owners (get_or declared m [])))
  still_below owners m below = subst AreNamesBelow (sym (names_length round m owners (get_or declared m []))) below

  pub knows_reached : (P : ℕ → ℕ → Type 0) (owners : List Owner) (ms : List ℕ) → AreNamesBelow (length owners) → Knows owners round P
      → Knows (add_reached declared round owners ms) round (λ y o. P y o ⊎ (IsIn o ms × IsIn y (links_at declared o)))
  knows_reached P owners [] below knows =
      knows_weaker owners round P (λ y o. P y o ⊎ (IsIn o [] × IsIn y (links_at declared o))) (λ y o p. inl p) (λ y o h. elim h [ inl p ↦ p | inr q ↦ absurd (true≢false (sym q.0)) ]) knows
  knows_reached P owners (m ∷ ms) below knows =
      let ns : List ℕ = get_or declared m [] in
      let first : ℕ → ℕ → Type 0 = λ y o. P y o ⊎ (IsIn y ns × (o ≡ m)) in
      knows_weaker (add_reached declared round (add_names round m owners ns) ms) round (λ y o. first y o ⊎ (IsIn o ms × IsIn y (links_at declared o))) (λ y o. P y o ⊎ (IsIn o (m ∷ ms) × IsIn y (links_at declared o)))
      (λ y o h. elim h [
        | inl g ↦ elim g [
          | inl p ↦ inl p
          | inr q ↦ inr (subst (λ z. IsIn z (m ∷ ms)) (sym q.1) (in_head m ms), subst (λ z. IsIn y (links_at declared z)) (sym q.1) q.0)
        ]
        | inr q ↦ inr (in_tail m o ms q.0, q.1)
      ])
      (λ y o h. elim h [
        | inl p ↦ inl (inl p)
        | inr q ↦ elim (in_cons m o ms q.0) [ inl e ↦ inl (inr (subst (λ z. IsIn y (links_at declared z)) e q.1, e)) | inr t ↦ inr (t, q.1) ]
      ])
      (knows_reached first (add_names round m owners ns) ms (still_below owners m below) (knows_names round m P owners ns (names_below owners m below) knows))

  pub fresh_reached : (owners : List Owner) (ms : List ℕ) (to : ℕ) → AreNamesBelow (length owners) → AreFresh owners (round + 1) to → AreFresh (add_reached declared round owners ms) (round + 1) to
  fresh_reached owners [] to below fresh = fresh
  fresh_reached owners (m ∷ ms) to below fresh =
      let ns : List ℕ = get_or declared m [] in
      fresh_reached (add_names round m owners ns) ms to (still_below owners m below) (fresh_names round m owners ns to (names_below owners m below) fresh)

  -- whether a name of one of these has another owner
  pub any_reached_tells : (P : ℕ → ℕ → Type 0) (owners : List Owner) (ms : List ℕ) → AreNamesBelow (length owners) → Knows owners round P
      → (any_reached declared round owners ms ≡ true) ↔ ((o x p : ℕ) × IsIn o ms × IsIn x (links_at declared o) × P x p × (p ≢ o))
  any_reached_tells P owners ms below knows = (
    λ h.
        let one = any_found (λ m. list_any (λ x. other_at owners round x m) (get_or declared m [])) ms h in
        let two = any_found (λ x. other_at owners round x one.0) (get_or declared one.0 []) one.2 in
        let told = (knows two.0 one.0 (below one.0 two.0 two.1)).0 two.2 in
        (one.0, two.0, told.0, one.1, two.1, told.1, told.2),
    λ z.
        any_given (λ m. list_any (λ x. other_at owners round x m) (get_or declared m [])) ms z.0 z.3
        (any_given (λ x. other_at owners round x z.0) (get_or declared z.0 []) z.1 z.4
        ((knows z.1 z.0 (below z.0 z.1 z.4)).1 (z.2, z.5, z.6))),
  )

-- at the beginning of a round nobody owns a name
pub knows_none : (owners : List Owner) (round to : ℕ) → round < to → AreFresh owners round to → Knows owners round (λ x o. ⊥)
knows_none owners round to low fresh x m high = (
  λ h. absurd (fresh x round high (omega arith) low (equal_numbers (get_or owners x nobody).round round (and_left (nat_eq (get_or owners x nobody).round round) ((get_or owners x nobody).several || not (nat_eq (get_or owners x nobody).number m)) h))),
  λ z. absurd z.1,
)

pub later_fresh : (owners : List Owner) (round to : ℕ) → AreFresh owners round to → AreFresh owners (round + 1) to
later_fresh owners round to fresh x r high from below = fresh x r high (omega (arith, from)) below

-- What is reached by links, as it is found.
use Rattle.std.proofs.Common.{◌≡◌, ◌↔◌, ℕ, zero, suc, ◌+◌, ◌<◌, ◌≤◌, ◌⊎◌, inl, inr, List, [], ◌∷◌, ◌++◌, Bool, true, false, cond, ◌||◌, length, take, get_or, nat_eq, refl, sym, ap, ◌∙◌, subst, true≢false, append-nil, append_assoc, arith}
use Rattle.std.proofs.lemmas.Bool.Decides.{nat_tests}
use Rattle.std.specs.List.{AllByRecursion, IsDistinct, list_any}
use Rattle.std.proofs.lemmas.Cmp.{nat_eq_equiv}
use Rattle.std.proofs.lemmas.Map.Keys.{IsDistinct-push}
use Rattle.std.proofs.lemmas.Map.Steps.{length-le_from_distinct_below}
use Rattle.extend_resolve.specs.Machinery.Links.{IsIn, links_at, IsWay, way_end, Arrives, AreLinksWithin, push_new, add_new, AreMarked, AreOpened, IsOpening}

-- ---- elements of a list of numbers
pub equal_numbers : (x y : ℕ) → nat_eq x y ≡ true → x ≡ y
equal_numbers x y h = grind (arith, nat_tests)

pub same_number : (x : ℕ) → nat_eq x x ≡ true
same_number x = nat_eq_equiv.refl x

pub in_left : (y : ℕ) (xs ys : List ℕ) → IsIn y xs → IsIn y (xs ++ ys)
in_left y [] ys h = absurd (true≢false (sym h))
in_left y (x ∷ xs) ys h = elim (nat_eq y x) as (λ b. (b || list_any (nat_eq y) xs) ≡ true → (b || list_any (nat_eq y) (xs ++ ys)) ≡ true) [ true ↦ λ _. refl | false ↦ in_left y xs ys ] h

pub in_last : (y : ℕ) (xs : List ℕ) → IsIn y (xs ++ y ∷ [])
in_last y [] = ap (λ b. b || false) (same_number y)
in_last y (x ∷ xs) = elim (nat_eq y x) as (λ b. (b || list_any (nat_eq y) (xs ++ y ∷ [])) ≡ true) [ true ↦ refl | false ↦ in_last y xs ]

pub all_in : (P : ℕ → Type 0) (xs : List ℕ) (y : ℕ) → AllByRecursion P xs → IsIn y xs → P y
all_in P [] y all h = absurd (true≢false (sym h))
all_in P (x ∷ xs) y all h =
    elim (nat_eq y x) as (λ b. nat_eq y x ≡ b → (b || list_any (nat_eq y) xs) ≡ true → P y) [
      | true ↦ λ e _. subst P (sym (equal_numbers y x e)) all.0
      | false ↦ λ e h. all_in P xs y all.1 h
    ] refl h

pub all_push : (P : ℕ → Type 0) (xs : List ℕ) (y : ℕ) → AllByRecursion P xs → P y → AllByRecursion P (xs ++ y ∷ [])
all_push P [] y all p = (p, tt)
all_push P (x ∷ xs) y all p = (all.0, all_push P xs y all.1 p)

pub all_map : (P Q : ℕ → Type 0) (xs : List ℕ) → ((x : ℕ) → P x → Q x) → AllByRecursion P xs → AllByRecursion Q xs
all_map P Q [] f all = tt
all_map P Q (x ∷ xs) f all = (f x all.0, all_map P Q xs f all.1)

-- ---- with the numbers that are not yet there
-- what holds of what is there, and of what is added, holds throughout
pub all_added : (P : ℕ → Type 0) (found ys : List ℕ) → AllByRecursion P found → AllByRecursion P ys → AllByRecursion P (add_new found ys)
all_added P found [] old new = old
all_added P found (y ∷ ys) old new =
    all_added P (push_new found y) ys (elim (list_any (nat_eq y) found) as (λ b. AllByRecursion P (cond b found (found ++ y ∷ []))) [ true ↦ old | false ↦ all_push P found y old new.0 ]) new.1

distinct_added : (found ys : List ℕ) → IsDistinct nat_eq found → IsDistinct nat_eq (add_new found ys)
distinct_added found [] d = d
distinct_added found (y ∷ ys) d =
    distinct_added (push_new found y) ys (elim (list_any (nat_eq y) found) as (λ b. list_any (nat_eq y) found ≡ b → IsDistinct nat_eq (cond b found (found ++ y ∷ []))) [
      | true ↦ λ e. d
      | false ↦ λ e. IsDistinct-push nat_eq_equiv found y d e
    ] refl)

-- what is there stays in front
pushed : (found : List ℕ) (y : ℕ) → (more : List ℕ) × (push_new found y ≡ found ++ more)
pushed found y = elim (list_any (nat_eq y) found) as (λ b. (more : List ℕ) × (cond b found (found ++ y ∷ []) ≡ found ++ more)) [ true ↦ ([], sym (append-nil found)) | false ↦ (y ∷ [], refl) ]

pub added : (found ys : List ℕ) → (more : List ℕ) × (add_new found ys ≡ found ++ more)
added found [] = ([], sym (append-nil found))
added found (y ∷ ys) =
    let one = pushed found y in
    let rest = added (push_new found y) ys in
    (one.0 ++ rest.0, rest.1 ∙ ap (λ xs. xs ++ rest.0) one.1 ∙ append_assoc found one.0 rest.0)

still_in : (found ys : List ℕ) (y : ℕ) → IsIn y found → IsIn y (add_new found ys)
still_in found ys y h = let more = added found ys in subst (IsIn y) (sym more.1) (in_left y found more.0 h)

in_pushed : (found : List ℕ) (y : ℕ) → IsIn y (push_new found y)
in_pushed found y = elim (list_any (nat_eq y) found) as (λ b. list_any (nat_eq y) found ≡ b → IsIn y (cond b found (found ++ y ∷ []))) [ true ↦ λ e. e | false ↦ λ e. in_last y found ] refl

new_in : (found ys : List ℕ) (y : ℕ) → IsIn y ys → IsIn y (add_new found ys)
new_in found [] y h = absurd (true≢false (sym h))
new_in found (x ∷ xs) y h =
    elim (nat_eq y x) as (λ b. nat_eq y x ≡ b → (b || list_any (nat_eq y) xs) ≡ true → IsIn y (add_new (push_new found x) xs)) [
      | true ↦ λ e _. still_in (push_new found x) xs y (subst (λ z. IsIn z (push_new found x)) (sym (equal_numbers y x e)) (in_pushed found x))
      | false ↦ λ e h. new_in (push_new found x) xs y h
    ] refl h

-- ---- positions
pub in_at : (xs : List ℕ) (k d : ℕ) → k < length xs → IsIn (get_or xs k d) xs
in_at [] k d low = absurd (omega (arith, low))
in_at (x ∷ xs) zero d low = ap (λ b. b || list_any (nat_eq x) xs) (same_number x)
in_at (x ∷ xs) (suc k) d low =
    elim (nat_eq (get_or xs k d) x) as (λ b. (b || list_any (nat_eq (get_or xs k d)) xs) ≡ true) [ true ↦ refl | false ↦ in_at xs k d (omega (arith, low)) ]

pub all_from : (P : ℕ → Type 0) (xs : List ℕ) → ((y : ℕ) → IsIn y xs → P y) → AllByRecursion P xs
all_from P [] f = tt
all_from P (x ∷ xs) f = (
  f x (ap (λ b. b || list_any (nat_eq x) xs) (same_number x)),
  all_from P xs (λ y h. f y (elim (nat_eq y x) as (λ b. (b || list_any (nat_eq y) xs) ≡ true) [ true ↦ refl | false ↦ h ])),
)

take_more : (P : ℕ → Type 0) (xs more : List ℕ) (k d : ℕ) → k < length xs → AllByRecursion P (take k xs) → P (get_or xs k d) → AllByRecursion P (take (suc k) (xs ++ more))
take_more P [] more k d low all one = absurd (omega (arith, low))
take_more P (x ∷ xs) more zero d low all one = (one, tt)
take_more P (x ∷ xs) more (suc k) d low all one = (all.0, take_more P xs more k d (omega (arith, low)) all.1 one)

take_whole : (P : ℕ → Type 0) (xs : List ℕ) (k : ℕ) → length xs ≤ k → AllByRecursion P (take k xs) → AllByRecursion P xs
take_whole P [] k long all = tt
take_whole P (x ∷ xs) zero long all = absurd (omega (arith, long))
take_whole P (x ∷ xs) (suc k) long all = (all.0, take_whole P xs k (omega (arith, long)) all.1)

module _ (links : List (List ℕ)) (start : ℕ) where
  one_more : (x : ℕ) (ys : List ℕ) (y : ℕ) → IsWay links x ys → IsIn y (links_at links (way_end x ys)) → IsWay links x (ys ++ y ∷ [])
  one_more x [] y way link = (link, tt)
  one_more x (z ∷ zs) y way link = (way.0, one_more z zs y way.1 link)

  end_more : (x : ℕ) (ys : List ℕ) (y : ℕ) → way_end x (ys ++ y ∷ []) ≡ y
  end_more x [] y = refl
  end_more x (z ∷ zs) y = end_more z zs y

  arrives_further : (x y : ℕ) → Arrives links start x → IsIn y (links_at links x) → Arrives links start y
  arrives_further x y (ys, way, is) link = (ys ++ y ∷ [], one_more start ys y way (subst (λ z. IsIn y (links_at links z)) (sym is) link), end_more start ys y)

  pub opening_begins : start < length links → IsOpening links start (start ∷ []) 0
  unfolding IsDistinct
  opening_begins low = record {
    begun = ap (λ b. b || false) (same_number start);
    reached = (([], tt, refl), tt);
    distinct = (tt, tt);
    below = (low, tt);
    opened = tt;
  }

  opening_suc : (found : List ℕ) (at d : ℕ) → AreLinksWithin links → at < length found → IsOpening links start found at
      → IsOpening links start (add_new found (links_at links (get_or found at d))) (suc at)
  opening_suc found at d within low so_far =
      let x : ℕ = get_or found at d in
      let next : List ℕ = links_at links x in
      let arrived : Arrives links start x = all_in (Arrives links start) found x so_far.reached (in_at found at d low) in
      let more = added found next in
      let opened : AreOpened links (add_new found next) (take (suc at) (found ++ more.0)) =
      take_more (λ z. (y : ℕ) → IsIn y (links_at links z) → IsIn y (add_new found next)) found more.0 at d low
      (all_map _ _ (take at found) (λ z h y link. still_in found next y (h y link)) so_far.opened) (λ y link. new_in found next y link) in
      record {
        begun = still_in found next start so_far.begun;
        reached = all_added (Arrives links start) found next so_far.reached (all_from (Arrives links start) next (λ y link. arrives_further x y arrived link));
        distinct = distinct_added found next so_far.distinct;
        below = all_added (λ y. y < length links) found next so_far.below (all_from (λ y. y < length links) next (λ y link. within x y link));
        opened = subst (λ xs. AreOpened links (add_new found next) (take (suc at) xs)) (sym more.1) opened;
      }

  pub opening_step : (found : List ℕ) (at d : ℕ) → AreLinksWithin links → at < length found → IsOpening links start found at
      → IsOpening links start (add_new found (links_at links (get_or found at d))) (at + 1)
  opening_step found at d within low so_far =
      let next : suc at ≡ at + 1 = omega arith in
      subst (IsOpening links start (add_new found (links_at links (get_or found at d)))) next (opening_suc found at d within low so_far)

  pub opening_fits : (found : List ℕ) (at : ℕ) → IsOpening links start found at → length found ≤ length links
  opening_fits found at so_far = length-le_from_distinct_below found (length links) so_far.distinct (λ q h. all_in (λ y. y < length links) found q so_far.below h)

  closed : (found : List ℕ) → AreOpened links found found → (x : ℕ) (ys : List ℕ) → IsIn x found → IsWay links x ys → IsIn (way_end x ys) found
  closed found opened x [] here way = here
  closed found opened x (y ∷ ys) here way =
      closed found opened y ys (all_in (λ z. (w : ℕ) → IsIn w (links_at links z) → IsIn w found) found x opened here y way.0) way.1

  -- when the links of all are found, exactly what links lead to is found
  pub opening_ends : (found : List ℕ) (at : ℕ) → length found ≤ at → IsOpening links start found at → (y : ℕ) → IsIn y found ↔ Arrives links start y
  opening_ends found at all so_far y = (
    λ here. all_in (Arrives links start) found y so_far.reached here,
    λ a. subst (λ z. IsIn z found) a.2 (closed found (take_whole (λ z. (w : ℕ) → IsIn w (links_at links z) → IsIn w found) found at all so_far.opened) start a.0 so_far.begun a.1),
  )

-- ---- what is read at a position that is there
pub same_within : {X : Type 0} (xs : List X) (k : ℕ) (d e : X) → k < length xs → get_or xs k d ≡ get_or xs k e
same_within [] k d e low = absurd (omega (arith, low))
same_within (x ∷ xs) zero d e low = refl
same_within (x ∷ xs) (suc k) d e low = same_within xs k d e (omega (arith, low))

pub number_below : (links : List (List ℕ)) (start : ℕ) (found : List ℕ) (at d : ℕ) → at < length found → IsOpening links start found at → get_or found at d < length links
number_below links start found at d low so_far = all_in (λ y. y < length links) found (get_or found at d) so_far.below (in_at found at d low)

-- the links that are read for a number that is read
pub links_read : (links : List (List ℕ)) (start : ℕ) (found : List ℕ) (at number : ℕ) (read slice : List ℕ) → at < length found → IsOpening links start found at
    → number ≡ get_or found at number → read ≡ get_or links number read → slice ≡ read → slice ≡ links_at links (get_or found at 0)
links_read links start found at number read slice low so_far is got given =
    let x : number ≡ get_or found at 0 = is ∙ same_within found at number 0 low in
    let below : number < length links = subst (λ n. n < length links) (sym x) (number_below links start found at 0 low so_far) in
    given ∙ got ∙ same_within links number read [] below ∙ ap (λ n. links_at links n) x

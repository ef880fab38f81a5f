-- Elements of lists, by position, by their own tests and by the list's.
use Rattle.std.proofs.Common.{◌≡◌, ◌≢◌, ℕ, zero, suc, ◌+◌, ◌<◌, ◌≤◌, ◌⊎◌, inl, inr, List, [], ◌∷◌, Bool, true, false, ◌||◌, length, map, take, get_or, slice_index_or, nat_eq, Option, Some, None, refl, sym, ap, ◌∙◌, subst, true≢false, arith}
use Rattle.std.specs.Prelude.{slice_get, Contains, IsSome}
use Rattle.std.specs.List.{AllByRecursion, list_any, filter_map, cons_option}
use Rattle.std.proofs.lemmas.Bool.Decides.{nat_tests}
use Rattle.std.proofs.lemmas.Option.{same_Some, none-some}
use Rattle.std.proofs.lemmas.Bool.{or_right}
use Rattle.extend_resolve.specs.Machinery.Links.{IsIn}

pub equal_numbers : (x y : ℕ) → nat_eq x y ≡ true → x ≡ y
equal_numbers x y h = grind (arith, nat_tests)

pub same_number : (x y : ℕ) → x ≡ y → nat_eq x y ≡ true
same_number x y h = grind (arith, nat_tests)

pub other_number : (x y : ℕ) → x ≢ y → nat_eq x y ≡ false
other_number x y h = grind (arith, nat_tests)

-- ---- lists of numbers
pub in_head : (y : ℕ) (ys : List ℕ) → IsIn y (y ∷ ys)
in_head y ys = ap (λ b. b || list_any (nat_eq y) ys) (same_number y y refl)

pub in_tail : (x y : ℕ) (ys : List ℕ) → IsIn y ys → IsIn y (x ∷ ys)
in_tail x y ys h = or_right (nat_eq y x) (list_any (nat_eq y) ys) h

pub either : (a b : Bool) → (a || b) ≡ true → (a ≡ true) ⊎ (b ≡ true)
either true b h = inl refl
either false b h = inr h

pub in_cons : (x y : ℕ) (ys : List ℕ) → IsIn y (x ∷ ys) → (y ≡ x) ⊎ IsIn y ys
in_cons x y ys h = elim (either (nat_eq y x) (list_any (nat_eq y) ys) h) [ inl e ↦ inl (equal_numbers y x e) | inr t ↦ inr t ]

-- a test that one of the numbers passes
pub any_found : (p : ℕ → Bool) (ys : List ℕ) → list_any p ys ≡ true → (y : ℕ) × IsIn y ys × (p y ≡ true)
any_found p [] h = absurd (true≢false (sym h))
any_found p (x ∷ ys) h =
    elim (either (p x) (list_any p ys) h) [
      | inl e ↦ (x, in_head x ys, e)
      | inr t ↦ let more = any_found p ys t in (more.0, in_tail x more.0 ys more.1, more.2)
    ]

pub any_given : (p : ℕ → Bool) (ys : List ℕ) (y : ℕ) → IsIn y ys → p y ≡ true → list_any p ys ≡ true
any_given p [] y h e = absurd (true≢false (sym h))
any_given p (x ∷ ys) y h e =
    elim (in_cons x y ys h) [
      | inl same ↦ ap (λ b. b || list_any p ys) (subst (λ z. p z ≡ true) same e)
      | inr t ↦ or_right (p x) (list_any p ys) (any_given p ys y t e)
    ]

pub all_of : (P : ℕ → Type 0) (ys : List ℕ) → ((y : ℕ) → IsIn y ys → P y) → AllByRecursion P ys
all_of P [] h = tt
all_of P (x ∷ ys) h = (h x (in_head x ys), all_of P ys (λ y t. h y (in_tail x y ys t)))

pub one_of : (P : ℕ → Type 0) (ys : List ℕ) (y : ℕ) → AllByRecursion P ys → IsIn y ys → P y
one_of P [] y all h = absurd (true≢false (sym h))
one_of P (x ∷ ys) y all h = elim (in_cons x y ys h) [ inl e ↦ subst P (sym e) all.0 | inr t ↦ one_of P ys y all.1 t ]

-- ---- a number that may be put in front
in_option : (o : Option ℕ) (y : ℕ) (ys : List ℕ) → IsIn y ys → IsIn y (cons_option o ys)
in_option None y ys h = h
in_option (Some x) y ys h = in_tail x y ys h

option_in : (o : Option ℕ) (y : ℕ) (ys : List ℕ) → IsIn y (cons_option o ys) → (o ≡ Some y) ⊎ IsIn y ys
option_in None y ys h = inr h
option_in (Some x) y ys h = elim (in_cons x y ys h) [ inl e ↦ inl (ap Some (sym e)) | inr t ↦ inr t ]

-- ---- elements by their positions
module _ {X : Type 0} where
  pub placed_from_contained : (xs : List X) (x : X) (k : ℕ) → k < length xs → slice_index_or xs k x ≡ x → slice_get xs k ≡ Some x
  placed_from_contained [] x k low is = absurd (omega (arith, low))
  placed_from_contained (y ∷ ys) x zero low is = ap Some is
  placed_from_contained (y ∷ ys) x (suc k) low is = placed_from_contained ys x k (omega (arith, low)) is

  pub contained_at : (xs : List X) (x : X) (k : ℕ) → slice_get xs k ≡ Some x → (k < length xs) × (slice_index_or xs k x ≡ x)
  contained_at [] x k is = absurd (none-some x is)
  contained_at (y ∷ ys) x zero is = (omega arith, same_Some y x is)
  contained_at (y ∷ ys) x (suc k) is = let more = contained_at ys x k is in (omega (arith, more.0), more.1)

  pub contains_placed : (xs : List X) (x : X) (k : ℕ) → slice_get xs k ≡ Some x → Contains xs x
  contains_placed xs x k is = let c = contained_at xs x k is in (k, c.0, c.1)

  pub read_at : (xs : List X) (x d : X) (k : ℕ) → slice_get xs k ≡ Some x → get_or xs k d ≡ x
  read_at [] x d k is = absurd (none-some x is)
  read_at (y ∷ ys) x d zero is = same_Some y x is
  read_at (y ∷ ys) x d (suc k) is = read_at ys x d k is

  pub placed_within : (xs : List X) (k : ℕ) → k < length xs → (x : X) × (slice_get xs k ≡ Some x)
  placed_within [] k low = absurd (omega (arith, low))
  placed_within (y ∷ ys) zero low = (y, refl)
  placed_within (y ∷ ys) (suc k) low = placed_within ys k (omega (arith, low))

  pub read_placed : (xs : List X) (k : ℕ) (d : X) → k < length xs → slice_get xs k ≡ Some (get_or xs k d)
  read_placed [] k d low = absurd (omega (arith, low))
  read_placed (y ∷ ys) zero d low = refl
  read_placed (y ∷ ys) (suc k) d low = read_placed ys k d (omega (arith, low))

  pub all_at : (P : X → Type 0) (xs : List X) (k : ℕ) (x : X) → AllByRecursion P xs → slice_get xs k ≡ Some x → P x
  all_at P [] k x all h = absurd (none-some x h)
  all_at P (y ∷ ys) zero x all h = subst P (same_Some y x h) all.0
  all_at P (y ∷ ys) (suc k) x all h = all_at P ys k x all.1 h

  pub taken : (xs : List X) (n k : ℕ) (x : X) → k < n → slice_get xs k ≡ Some x → slice_get (take n xs) k ≡ Some x
  taken [] n k x low h = absurd (none-some x h)
  taken (y ∷ ys) zero k x low h = absurd (omega (arith, low))
  taken (y ∷ ys) (suc n) zero x low h = h
  taken (y ∷ ys) (suc n) (suc k) x low h = taken ys n k x (omega (arith, low)) h

  pub untaken : (xs : List X) (n k : ℕ) (x : X) → slice_get (take n xs) k ≡ Some x → (k < n) × (slice_get xs k ≡ Some x)
  untaken [] zero k x h = absurd (none-some x h)
  untaken [] (suc n) k x h = absurd (none-some x h)
  untaken (y ∷ ys) zero k x h = absurd (none-some x h)
  untaken (y ∷ ys) (suc n) zero x h = (omega arith, h)
  untaken (y ∷ ys) (suc n) (suc k) x h = let more = untaken ys n k x h in (omega (arith, more.0), more.1)

  pub mapped_at : {Y : Type 0} (f : X → Y) (xs : List X) (k : ℕ) (x : X) → slice_get xs k ≡ Some x → slice_get (map f xs) k ≡ Some (f x)
  mapped_at f [] k x h = absurd (none-some x h)
  mapped_at f (y ∷ ys) zero x h = ap Some (ap f (same_Some y x h))
  mapped_at f (y ∷ ys) (suc k) x h = mapped_at f ys k x h

  pub unmapped_at : {Y : Type 0} (f : X → Y) (xs : List X) (k : ℕ) (z : Y) → slice_get (map f xs) k ≡ Some z → (x : X) × (slice_get xs k ≡ Some x) × (f x ≡ z)
  unmapped_at f [] k z h = absurd (none-some z h)
  unmapped_at f (y ∷ ys) zero z h = (y, refl, same_Some (f y) z h)
  unmapped_at f (y ∷ ys) (suc k) z h = unmapped_at f ys k z h

  pub is_some_of : (o : Option X) → IsSome o → (x : X) × (o ≡ Some x)
  is_some_of None h = absurd (true≢false (sym h))
  is_some_of (Some x) h = (x, refl)

  -- what a partial function gives of the elements
  pub kept_in : (f : X → Option ℕ) (xs : List X) (k y : ℕ) (x : X) → slice_get xs k ≡ Some x → f x ≡ Some y → IsIn y (filter_map f xs)
  kept_in f [] k y x h e = absurd (none-some x h)
  kept_in f (z ∷ zs) zero y x h e =
      subst (λ o. IsIn y (cons_option o (filter_map f zs))) (sym (ap f (same_Some z x h) ∙ e)) (in_head y (filter_map f zs))
  kept_in f (z ∷ zs) (suc k) y x h e = in_option (f z) y (filter_map f zs) (kept_in f zs k y x h e)

  pub kept_from : (f : X → Option ℕ) (xs : List X) (y : ℕ) → IsIn y (filter_map f xs) → (k : ℕ) × (x : X) × (slice_get xs k ≡ Some x) × (f x ≡ Some y)
  kept_from f [] y h = absurd (true≢false (sym h))
  kept_from f (z ∷ zs) y h =
      elim (option_in (f z) y (filter_map f zs) h) [
        | inl e ↦ (zero, z, refl, e)
        | inr t ↦ let more = kept_from f zs y t in (suc more.0, more.1, more.2, more.3)
      ]

  at_most : (f : X → Option ℕ) (xs : List X) → length (filter_map f xs) ≤ length xs
  at_most f [] = omega arith
  at_most f (x ∷ xs) =
      let more = at_most f xs in
      elim (f x) as (λ o. length (cons_option o (filter_map f xs)) ≤ suc (length xs)) [ None ↦ omega (arith, more) | Some y ↦ omega (arith, more) ]

  -- where it leaves out none, what it gives stands at the element's position
  pub kept_in_place : (f : X → Option ℕ) (xs : List X) (k : ℕ) (x : X) → length (filter_map f xs) ≡ length xs → slice_get xs k ≡ Some x → Some (get_or (filter_map f xs) k 0) ≡ f x
  kept_in_place f [] k x same h = absurd (none-some x h)
  kept_in_place f (z ∷ zs) zero x same h =
      elim (f z) as (λ o. f z ≡ o → length (cons_option o (filter_map f zs)) ≡ suc (length zs) → Some (get_or (cons_option o (filter_map f zs)) 0 0) ≡ f x) [
        | None ↦ λ e long. let most = at_most f zs in absurd (omega (arith, most, long))
        | Some y ↦ λ e long. sym e ∙ ap f (same_Some z x h)
      ] refl same
  kept_in_place f (z ∷ zs) (suc k) x same h =
      elim (f z) as (λ o. length (cons_option o (filter_map f zs)) ≡ suc (length zs) → Some (get_or (cons_option o (filter_map f zs)) (suc k) 0) ≡ f x) [
        | None ↦ λ long. let most = at_most f zs in absurd (omega (arith, most, long))
        | Some y ↦ λ long. kept_in_place f zs k x (omega (arith, long)) h
      ] same

-- what is read from a list at a position that is there
pub read_named : {X : Type 0} (xs ys : List X) (k : ℕ) (x : X) → k < length xs → ys ≡ xs → x ≡ get_or ys k x → slice_get xs k ≡ Some x
read_named xs ys k x low same is =
    read_placed xs k x low ∙ ap Some (sym (is ∙ ap (λ zs. get_or zs k x) same))

pub read_links : (declared : List (List ℕ)) (y : ℕ) (ns r : List ℕ) → y < length declared → ns ≡ r → r ≡ get_or declared y r → ns ≡ get_or declared y []
read_links declared y ns r low same is = same ∙ is ∙ sym (read_at declared (get_or declared y r) [] y (read_placed declared y r low))

pub names_read : (declared : List (List ℕ)) (reached : List ℕ) (k d n : ℕ) (ns r : List ℕ) → k < length reached → AllByRecursion (λ y. y < length declared) reached
    → ns ≡ r → r ≡ get_or declared (get_or reached k d) r → ((y x : ℕ) → IsIn x (get_or declared y []) → x < n) → AllByRecursion (λ x. x < n) ns
names_read declared reached k d n ns r low all same is below =
    let y : ℕ = get_or reached k d in
    let within : y < length declared = all_at (λ z. z < length declared) reached k y all (read_placed reached k d low) in
    all_of (λ x. x < n) ns (λ x h. below y x (subst (IsIn x) (read_links declared y ns r within same is) h))

module _ {X : Type 0} (P Q : X → Type 0) (weaker : (x : X) → P x → Q x) where
  all_taken : (xs : List X) (k : ℕ) (x : X) → slice_get xs k ≡ Some x → AllByRecursion P (take k xs) → Q x → AllByRecursion Q (take (suc k) xs)
  all_taken [] k x h all q = absurd (none-some x h)
  all_taken (y ∷ ys) zero x h all q = (subst Q (sym (same_Some y x h)) q, tt)
  all_taken (y ∷ ys) (suc k) x h all q = (weaker y all.0, all_taken ys k x h all.1 q)

  pub all_take_more : (xs : List X) (k : ℕ) (x : X) → slice_get xs k ≡ Some x → AllByRecursion P (take k xs) → Q x → AllByRecursion Q (take (k + 1) xs)
  all_take_more xs k x h all q = let e : suc k ≡ k + 1 = omega arith in subst (λ n. AllByRecursion Q (take n xs)) e (all_taken xs k x h all q)

  pub all_weaker : (xs : List X) → AllByRecursion P xs → AllByRecursion Q xs
  all_weaker [] all = tt
  all_weaker (x ∷ xs) all = (weaker x all.0, all_weaker xs all.1)

pub read_option : {X : Type 0} (xs : List (Option X)) (k : ℕ) (x : Option X) → k < length xs → x ≡ get_or xs k x → x ≡ get_or xs k None
read_option xs k x low is = is ∙ sym (read_at xs (get_or xs k x) None k (read_placed xs k x low))

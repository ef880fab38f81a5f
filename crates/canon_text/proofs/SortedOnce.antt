-- A list that a stable sort leaves is the one that `sorted_by` gives.
use Rattle.std.proofs.Common.{◌≡◌, ℕ, suc, ◌<◌, ◌≤◌, List, [], ◌∷◌, Bool, true, false, not, ◌&&◌, if◌then◌else◌, length, get_or, refl, sym, ap, ◌∙◌, arith}
use Rattle.std.specs.List.{filter}
use Rattle.std.specs.List.Sorted.{IsSortedBy, IsStableBy, ties}
use Rattle.std.specs.Cmp.{IsStrictWeakOrder, nat_cmp_total}
use Rattle.std.specs.Cmp.Lexicographic.{lists_total}
use Rattle.std.proofs.lemmas.List.Sorted.{ranks_by, sorted_far}
use Rattle.canon_text.specs.Sorting.{is_before, put_by, sorted_by}

no_both : (b : Bool) → b ≡ true → b ≡ false → ⊥
no_both true t f = cc
no_both false t f = cc

both_of : (b c : Bool) → b ≡ false → c ≡ false → (not b && not c) ≡ true
both_of b c f g = rw (f, g) refl

pub first_of_both : (b c : Bool) → (not b && not c) ≡ true → b ≡ false
first_of_both true c t = absurd (no_both false t refl)
first_of_both false c t = refl

pub second_of_both : (b c : Bool) → (not b && not c) ≡ true → c ≡ false
second_of_both true c t = absurd (no_both false t refl)
second_of_both false true t = absurd (no_both false t refl)
second_of_both false false t = refl

module _ {X : Type 0} (lt : X → X → Bool) (order : IsStrictWeakOrder lt) where
  itself : (b : Bool) → (b ≡ true → b ≡ false) → b ≡ false
  itself true h = h refl
  itself false h = refl

  not_below : (x : X) → lt x x ≡ false
  not_below x = itself (lt x x) (order.one_way x x)

  tied : (x : X) → ties lt x x ≡ true
  tied x = both_of (lt x x) (lt x x) (not_below x) (not_below x)

  -- no element of the list is below it
  abbrev pub Above : X → List X → Type 0
  Above x [] = Unit {0}
  Above x (y ∷ ys) = (lt y x ≡ false) × Above x ys

  abbrev pub Rises : List X → Type 0
  Rises [] = Unit {0}
  Rises (x ∷ xs) = Above x xs × Rises xs

  above_of : (x : X) (xs : List X) → ((k : ℕ) → k < length xs → lt (get_or xs k x) x ≡ false) → Above x xs
  above_of x [] h = tt
  above_of x (y ∷ ys) h = (h 0 (omega arith), above_of x ys (λ k p. h (suc k) (omega arith)))

  rises_of : (xs : List X) → ((i j : ℕ) (d : X) → i ≤ j → j < length xs → lt (get_or xs j d) (get_or xs i d) ≡ false) → Rises xs
  rises_of [] h = tt
  rises_of (x ∷ xs) h = (above_of x xs (λ k p. h 0 (suc k) x (omega arith) (omega arith)), rises_of xs (λ i j d p q. h (suc i) (suc j) d (omega arith) (omega arith)))

  above_below : (x y : X) (ys : List X) → lt y x ≡ false → Above y ys → Above x ys
  above_below x y [] l h = tt
  above_below x y (z ∷ zs) l h = (order.chain z y x h.0 l, above_below x y zs l h.1)

  -- ---- what two lists that rise begin with
  abbrev pub kept : X → List X → List X
  kept x ys = filter (ties lt x) ys

  pub kept_in : (x y : X) (ys : List X) → ties lt x y ≡ true → kept x (y ∷ ys) ≡ y ∷ kept x ys
  kept_in x y ys t = ap (λ (b : Bool). if b then y ∷ kept x ys else kept x ys) t

  pub kept_out : (x y : X) (ys : List X) → ties lt x y ≡ false → kept x (y ∷ ys) ≡ kept x ys
  kept_out x y ys t = ap (λ (b : Bool). if b then y ∷ kept x ys else kept x ys) t

  -- a list that keeps something tied with x, above y, has x not below y
  some_kept : (x y z : X) (ys zs : List X) → Above y ys → kept x ys ≡ z ∷ zs → lt x y ≡ false
  some_kept x y z [] zs up e = absurd (let f : [] ≡ z ∷ zs = e in cc)
  some_kept x y z (u ∷ ys) zs up e = by (ties lt x u) refl (λ f. some_kept x y z ys zs up.1 f)
    where
      by : (b : Bool) → ties lt x u ≡ b → (kept x ys ≡ z ∷ zs → lt x y ≡ false) → lt x y ≡ false
      by true t later = order.chain x u y (first_of_both (lt x u) (lt u x) t) up.0
      by false t later = later (sym (kept_out x u ys t) ∙ e)

  same_tail : (b : Bool) (x y : X) (xs ys : List X) → x ≡ y → (if b then x ∷ xs else xs) ≡ (if b then y ∷ ys else ys) → xs ≡ ys
  same_tail true x y xs ys e f = let g : x ∷ xs ≡ y ∷ ys = f in cc
  same_tail false x y xs ys e f = f

  module _ (x y : X) (xs ys : List X) (up : Rises (x ∷ xs)) (down : Rises (y ∷ ys)) (same : (z : X) → kept z (x ∷ xs) ≡ kept z (y ∷ ys)) where
    first_low : lt x y ≡ false
    first_low = some_kept x y x (y ∷ ys) (kept x xs) (not_below y, down.0) (sym (same x) ∙ kept_in x x xs (tied x))

    second_low : lt y x ≡ false
    second_low = some_kept y x y (x ∷ xs) (kept y ys) (not_below x, up.0) (same y ∙ kept_in y y ys (tied y))

    same_first : x ≡ y
    same_first =
        let e : x ∷ kept x xs ≡ y ∷ kept x ys = sym (kept_in x x xs (tied x)) ∙ same x ∙ kept_in x y ys (both_of (lt x y) (lt y x) first_low second_low) in
        cc

    same_rest : (z : X) → kept z xs ≡ kept z ys
    same_rest z = same_tail (ties lt z x) x y (kept z xs) (kept z ys) same_first
        (same z ∙ ap (λ (u : X). if ties lt z u then y ∷ kept z ys else kept z ys) (sym same_first))

  -- lists that rise and keep the same are one
  pub one_rising : (xs ys : List X) → Rises xs → Rises ys → ((z : X) → kept z xs ≡ kept z ys) → xs ≡ ys
  one_rising [] [] up down same = refl
  one_rising [] (y ∷ ys) up down same = absurd (let e : [] ≡ y ∷ kept y ys = same y ∙ kept_in y y ys (tied y) in cc)
  one_rising (x ∷ xs) [] up down same = absurd (let e : [] ≡ x ∷ kept x xs = sym (same x) ∙ kept_in x x xs (tied x) in cc)
  one_rising (x ∷ xs) (y ∷ ys) up down same =
      let e = same_first x y xs ys up down same in
      let f = one_rising xs ys up.1 down.1 (same_rest x y xs ys up down same) in
      cc

module _ {X : Type 0} (key : X → List ℕ) where
  abbrev pub less : X → X → Bool
  less x y = is_before (key x) (key y)

  pub ranked : IsStrictWeakOrder less
  ranked = ranks_by (lists_total nat_cmp_total) key

  above_put : (z x : X) (ys : List X) → less x z ≡ false → Above less ranked z ys → Above less ranked z (put_by key x ys)
  above_put z x [] l up = (l, tt)
  above_put z x (y ∷ ys) l up = by (less y x) (above_put z x ys l up.1)
    where
      by : (b : Bool) → Above less ranked z (put_by key x ys) → Above less ranked z (if b then y ∷ put_by key x ys else x ∷ y ∷ ys)
      by true later = (up.0, later)
      by false later = (l, up)

  rises_put : (x : X) (ys : List X) → Rises less ranked ys → Rises less ranked (put_by key x ys)
  rises_put x [] up = (tt, tt)
  rises_put x (y ∷ ys) up = by (less y x) refl (rises_put x ys up.1)
    where
      by : (b : Bool) → less y x ≡ b → Rises less ranked (put_by key x ys) → Rises less ranked (if b then y ∷ put_by key x ys else x ∷ y ∷ ys)
      by true t later = (above_put y x ys (ranked.one_way y x t) up.0, later)
      by false t later = ((t, above_below less ranked x y ys t up.0), up)

  pub rises_sorted : (xs : List X) → Rises less ranked (sorted_by key xs)
  rises_sorted [] = tt
  rises_sorted (x ∷ xs) = rises_put x (sorted_by key xs) (rises_sorted xs)

  -- ---- the elements of one key keep their order
  swapped : (b c : Bool) (x y : X) (zs : List X) → (b ≡ true → c ≡ true → ⊥) → (if b then y ∷ (if c then x ∷ zs else zs) else (if c then x ∷ zs else zs))
      ≡ (if c then x ∷ (if b then y ∷ zs else zs) else (if b then y ∷ zs else zs))
  swapped true true x y zs h = absurd (h refl refl)
  swapped true false x y zs h = refl
  swapped false true x y zs h = refl
  swapped false false x y zs h = refl

  not_both : (z x y : X) → less y x ≡ true → ties less z y ≡ true → ties less z x ≡ true → ⊥
  not_both z x y l t s = no_both (less y x) l (ranked.chain y z x (second_of_both (less z y) (less y z) t) (first_of_both (less z x) (less x z) s))

  kept_put : (z x : X) (ys : List X) → kept less ranked z (put_by key x ys) ≡ kept less ranked z (x ∷ ys)
  kept_put z x [] = refl
  kept_put z x (y ∷ ys) = by (less y x) refl (kept_put z x ys)
    where
      by : (b : Bool) → less y x ≡ b → kept less ranked z (put_by key x ys) ≡ kept less ranked z (x ∷ ys)
          → kept less ranked z (if b then y ∷ put_by key x ys else x ∷ y ∷ ys) ≡ kept less ranked z (x ∷ y ∷ ys)
      by true t later = ap (λ (zs : List X). if ties less z y then y ∷ zs else zs) later ∙ swapped (ties less z y) (ties less z x) x y (kept less ranked z ys) (not_both z x y t)
      by false t later = refl

  pub kept_sorted : (z : X) (xs : List X) → kept less ranked z (sorted_by key xs) ≡ kept less ranked z xs
  kept_sorted z [] = refl
  kept_sorted z (x ∷ xs) = kept_put z x (sorted_by key xs) ∙ ap (λ (zs : List X). if ties less z x then x ∷ zs else zs) (kept_sorted z xs)

  -- what a stable sort ensures
  pub stably_sorted : (xs ys : List X) → IsSortedBy less ys → IsStableBy less xs ys → ys ≡ sorted_by key xs
  stably_sorted xs ys up stable = one_rising less ranked ys (sorted_by key xs) (rises_of less ranked ys (sorted_far less ranked ys up)) (rises_sorted xs)
      (λ z. stable z ∙ sym (kept_sorted z xs))

-- What lists in order, and objects of a table of keys, tell of their parts.
use Rattle.std.proofs.Common.{◌≡◌, ◌≢◌, ℕ, ◌⊎◌, inl, inr, List, [], ◌∷◌, map, Bool, true, false, not, ◌&&◌, ◌||◌, if◌then◌else◌, Option, Some, None, refl, sym, ap, ◌∙◌, subst}
use Rattle.std.specs.List.{AllByRecursion}
use Rattle.std.specs.Str.{bytes_eq}
use Rattle.std.specs.Ordering.{nat_cmp, is_lt, ordering_reverse}
use Rattle.std.specs.declared.cmp.Ordering.{Ordering}
use Rattle.std.specs.declared.cmp.Ordering.TheVariants.{Less, Equal, Greater}
use Rattle.std.specs.Cmp.{nat_cmp_total}
use Rattle.std.specs.Cmp.Lexicographic.{slice_cmp, lists_total}
use Rattle.std.specs.List.Sorted.{ties}
use Rattle.std.proofs.lemmas.Bool.{cases_Bool}
use Rattle.std.proofs.lemmas.Map.Lookups.{exact_bytes}
use Rattle.std.proofs.lemmas.Slice.Eq.{bytes_eq-Decides}
use Rattle.json_tree.specs.Values.{Json}
use Rattle.dtdl_terms.specs.Distinct.{AreDistinct}
use Rattle.dtdl_terms.specs.Equality.{AnyByRecursion, SameElements}
use Rattle.canon_text.specs.Sorting.{is_before, put_by, sorted_by}
use Rattle.canon_text.specs.Objects.{present}
use Rattle.canon_text.proofs.SortedOnce.{less, ranked, kept, kept_in, kept_out, kept_sorted, rises_sorted, one_rising, first_of_both, second_of_both}

module _ {A : Type 0} where
  -- ---- some and all
  pub any_with : (P Q : A → Type 0) → ((x : A) → P x → Q x) → (xs : List A) → AnyByRecursion P xs → AnyByRecursion Q xs
  any_with P Q f [] p = absurd p
  any_with P Q f (x ∷ xs) (inl p) = inl (f x p)
  any_with P Q f (x ∷ xs) (inr p) = inr (any_with P Q f xs p)

  pub all_with : (P Q : A → Type 0) → ((x : A) → P x → Q x) → (xs : List A) → AllByRecursion P xs → AllByRecursion Q xs
  all_with P Q f [] p = tt
  all_with P Q f (x ∷ xs) p = (f x p.0, all_with P Q f xs p.1)

  -- what holds of all holds of one
  pub at_one : (P Q : A → Type 0) (C : Type 0) (xs : List A) → ((x : A) → P x → Q x → C) → AllByRecursion P xs → AnyByRecursion Q xs → C
  at_one P Q C [] g all one = absurd one
  at_one P Q C (x ∷ xs) g all (inl q) = g x all.0 q
  at_one P Q C (x ∷ xs) g all (inr q) = at_one P Q C xs g all.1 q

  own_any : (xs ys : List A) → ((x : A) → AnyByRecursion (λ y. x ≡ y) xs → AnyByRecursion (λ y. x ≡ y) ys) → AllByRecursion (λ x. AnyByRecursion (λ y. x ≡ y) ys) xs
  own_any [] ys into = tt
  own_any (x ∷ xs) ys into = (into x (inl refl), own_any xs ys (λ z among. into z (inr among)))

  -- each element is one of them
  pub each_own : (xs : List A) → AllByRecursion (λ x. AnyByRecursion (λ y. x ≡ y) xs) xs
  each_own xs = own_any xs xs (λ x among. among)

module _ {A B : Type 0} (f : A → B) (P : B → Type 0) where
  pub any_mapped : (xs : List A) → AnyByRecursion (λ x. P (f x)) xs → AnyByRecursion P (map f xs)
  any_mapped [] p = absurd p
  any_mapped (x ∷ xs) (inl p) = inl p
  any_mapped (x ∷ xs) (inr p) = inr (any_mapped xs p)

  pub any_unmapped : (xs : List A) → AnyByRecursion P (map f xs) → AnyByRecursion (λ x. P (f x)) xs
  any_unmapped [] p = absurd p
  any_unmapped (x ∷ xs) (inl p) = inl p
  any_unmapped (x ∷ xs) (inr p) = inr (any_unmapped xs p)

  pub all_mapped : (xs : List A) → AllByRecursion (λ x. P (f x)) xs → AllByRecursion P (map f xs)
  all_mapped [] p = tt
  all_mapped (x ∷ xs) p = (p.0, all_mapped xs p.1)

  pub all_unmapped : (xs : List A) → AllByRecursion P (map f xs) → AllByRecursion (λ x. P (f x)) xs
  all_unmapped [] p = tt
  all_unmapped (x ∷ xs) p = (p.0, all_unmapped xs p.1)

-- ---- sorting keeps the elements
module _ {A : Type 0} (key : A → List ℕ) (P : A → Type 0) where
  any_put : (x : A) (ys : List A) → P x ⊎ AnyByRecursion P ys → AnyByRecursion P (put_by key x ys)
  any_put x [] h = h
  any_put x (y ∷ ys) h = by (is_before (key y) (key x)) (any_put x ys) h
    where
      by : (b : Bool) → (P x ⊎ AnyByRecursion P ys → AnyByRecursion P (put_by key x ys)) → P x ⊎ (P y ⊎ AnyByRecursion P ys)
          → AnyByRecursion P (if b then y ∷ put_by key x ys else x ∷ y ∷ ys)
      by true later (inl p) = inr (later (inl p))
      by true later (inr (inl p)) = inl p
      by true later (inr (inr p)) = inr (later (inr p))
      by false later p = p

  put_any : (x : A) (ys : List A) → AnyByRecursion P (put_by key x ys) → P x ⊎ AnyByRecursion P ys
  put_any x [] h = h
  put_any x (y ∷ ys) h = by (is_before (key y) (key x)) (put_any x ys) h
    where
      then_later : P x ⊎ AnyByRecursion P ys → P x ⊎ (P y ⊎ AnyByRecursion P ys)
      then_later (inl p) = inl p
      then_later (inr p) = inr (inr p)

      by : (b : Bool) → (AnyByRecursion P (put_by key x ys) → P x ⊎ AnyByRecursion P ys) → AnyByRecursion P (if b then y ∷ put_by key x ys else x ∷ y ∷ ys)
          → P x ⊎ (P y ⊎ AnyByRecursion P ys)
      by true later (inl p) = inr (inl p)
      by true later (inr p) = then_later (later p)
      by false later p = p

  pub any_sorted : (xs : List A) → AnyByRecursion P xs → AnyByRecursion P (sorted_by key xs)
  any_sorted [] p = p
  any_sorted (x ∷ xs) (inl p) = any_put x (sorted_by key xs) (inl p)
  any_sorted (x ∷ xs) (inr p) = any_put x (sorted_by key xs) (inr (any_sorted xs p))

  sorted_first : (x : A) (xs : List A) → (AnyByRecursion P (sorted_by key xs) → AnyByRecursion P xs) → P x ⊎ AnyByRecursion P (sorted_by key xs) → P x ⊎ AnyByRecursion P xs
  sorted_first x xs later (inl p) = inl p
  sorted_first x xs later (inr p) = inr (later p)

  pub sorted_any : (xs : List A) → AnyByRecursion P (sorted_by key xs) → AnyByRecursion P xs
  sorted_any [] p = p
  sorted_any (x ∷ xs) p = sorted_first x xs (sorted_any xs) (put_any x (sorted_by key xs) p)

  pub all_put : (x : A) (ys : List A) → P x → AllByRecursion P ys → AllByRecursion P (put_by key x ys)
  all_put x [] p all = (p, tt)
  all_put x (y ∷ ys) p all = by (is_before (key y) (key x)) (all_put x ys p all.1)
    where
      by : (b : Bool) → AllByRecursion P (put_by key x ys) → AllByRecursion P (if b then y ∷ put_by key x ys else x ∷ y ∷ ys)
      by true later = (all.0, later)
      by false later = (p, all)

  pub all_sorted : (xs : List A) → AllByRecursion P xs → AllByRecursion P (sorted_by key xs)
  all_sorted [] all = tt
  all_sorted (x ∷ xs) all = all_put x (sorted_by key xs) all.0 (all_sorted xs all.1)

-- ---- equal lists in order have the same elements
module _ {A B : Type 0} (key : A → List ℕ) (f : A → B) (xs ys : List A) (same : map f (sorted_by key xs) ≡ map f (sorted_by key ys)) where
  there : (x : A) → AnyByRecursion (λ y. x ≡ y) xs → AnyByRecursion (λ y. f x ≡ f y) ys
  there x among =
      let sorted = any_sorted key (λ y. f x ≡ f y) xs (any_with (λ y. x ≡ y) (λ y. f x ≡ f y) (λ y e. ap f e) xs among) in
      let mapped = any_mapped f (λ v. f x ≡ v) (sorted_by key xs) sorted in
      let moved = subst (λ (vs : List B). AnyByRecursion (λ v. f x ≡ v) vs) same mapped in
      sorted_any key (λ y. f x ≡ f y) ys (any_unmapped f (λ v. f x ≡ v) (sorted_by key ys) moved)

  pub each_told : AllByRecursion (λ x. AnyByRecursion (λ y. f x ≡ f y) ys) xs
  each_told = all_with (λ x. AnyByRecursion (λ y. x ≡ y) xs) (λ x. AnyByRecursion (λ y. f x ≡ f y) ys) there xs (each_own xs)

-- ---- lists with the same elements, whose keys are distinct, are equal in order
pub no_both : (b : Bool) → b ≡ true → b ≡ false → ⊥
no_both true t f = cc
no_both false t f = cc

tied_texts : (a b : List ℕ) → is_before a b ≡ false → is_before b a ≡ false → a ≡ b
tied_texts a b first second = by (slice_cmp nat_cmp a b) refl
  where
    by : (r : Ordering) → slice_cmp nat_cmp a b ≡ r → a ≡ b
    by Less e = absurd (no_both (is_before a b) (ap is_lt e) first)
    by Equal e = exact_bytes a b e
    by Greater e = absurd (no_both (is_before b a) (ap is_lt ((lists_total nat_cmp_total).antisymm b a ∙ ap ordering_reverse e)) second)

module _ {A : Type 0} (key : A → List ℕ) where
  tied_keys : (x y : A) → ties (less key) x y ≡ true → key x ≡ key y
  tied_keys x y t = tied_texts (key x) (key y) (first_of_both (less key x y) (less key y x) t) (second_of_both (less key x y) (less key y x) t)

  -- two of those tied with one are tied
  both_tied : (z x y : A) → ties (less key) z x ≡ true → ties (less key) z y ≡ true → key x ≡ key y
  both_tied z x y t s = sym (tied_keys z x t) ∙ tied_keys z y s

  none_kept : (z : A) (xs : List A) → AllByRecursion (λ x. ties (less key) z x ≡ false) xs → kept (less key) (ranked key) z xs ≡ []
  none_kept z [] none = refl
  none_kept z (x ∷ xs) none = kept_out (less key) (ranked key) z x xs none.0 ∙ none_kept z xs none.1

  others_out : (z x : A) (xs : List A) → ties (less key) z x ≡ true → AllByRecursion (λ k. key x ≢ k) (map key xs) → AllByRecursion (λ y. ties (less key) z y ≡ false) xs
  others_out z x [] t distinct = tt
  others_out z x (y ∷ ys) t distinct = (by (cases_Bool (ties (less key) z y)), others_out z x ys t distinct.1)
    where
      by : (ties (less key) z y ≡ true) ⊎ (ties (less key) z y ≡ false) → ties (less key) z y ≡ false
      by (inl s) = absurd (distinct.0 (both_tied z x y t s))
      by (inr s) = s

  other_key : (z x y : A) (ys : List A) → ties (less key) z x ≡ true → AllByRecursion (λ k. key y ≢ k) (map key ys) → AnyByRecursion (λ u. x ≡ u) ys → ties (less key) z y ≡ false
  other_key z x y ys t distinct one = by (cases_Bool (ties (less key) z y))
    where
      by : (ties (less key) z y ≡ true) ⊎ (ties (less key) z y ≡ false) → ties (less key) z y ≡ false
      by (inl s) = absurd (at_one (λ u. key y ≢ key u) (λ u. x ≡ u) ⊥ ys (λ u n e. n (both_tied z y x s t ∙ ap key e)) (all_unmapped key (λ k. key y ≢ k) ys distinct) one)
      by (inr s) = s

  one_kept : (z x : A) (xs : List A) → AreDistinct (map key xs) → ties (less key) z x ≡ true → AnyByRecursion (λ y. x ≡ y) xs → kept (less key) (ranked key) z xs ≡ x ∷ []
  one_kept z x [] distinct t one = absurd one
  one_kept z x (y ∷ ys) distinct t (inl e) =
      let s : ties (less key) z y ≡ true = ap (ties (less key) z) (sym e) ∙ t in
      kept_in (less key) (ranked key) z y ys s ∙ ap (λ (l : List A). y ∷ l) (none_kept z ys (others_out z y ys s distinct.0)) ∙ ap (λ (u : A). u ∷ []) (sym e)
  one_kept z x (y ∷ ys) distinct t (inr later) =
      kept_out (less key) (ranked key) z y ys (other_key z x y ys t distinct.0 later) ∙ one_kept z x ys distinct.1 t later

  -- what is tied with z, if anything
  abbrev Tied : A → List A → Type 0
  Tied z xs = AllByRecursion (λ x. ties (less key) z x ≡ false) xs ⊎ ((x : A) × AnyByRecursion (λ y. x ≡ y) xs × (ties (less key) z x ≡ true))

  tied_in : (z : A) (xs : List A) → Tied z xs
  tied_in z [] = inl tt
  tied_in z (x ∷ xs) = by (cases_Bool (ties (less key) z x)) (tied_in z xs)
    where
      by : (ties (less key) z x ≡ true) ⊎ (ties (less key) z x ≡ false) → Tied z xs → Tied z (x ∷ xs)
      by (inl t) later = inr (x, inl refl, t)
      by (inr f) (inl none) = inl (f, none)
      by (inr f) (inr (y, one, t)) = inr (y, inr one, t)

  same_kept : (xs ys : List A) → AreDistinct (map key xs) → AreDistinct (map key ys) → SameElements (λ x y. x ≡ y) xs ys → (z : A)
      → kept (less key) (ranked key) z xs ≡ kept (less key) (ranked key) z ys
  same_kept xs ys first second same z = by (tied_in z xs) (tied_in z ys)
    where
      by : Tied z xs → Tied z ys → kept (less key) (ranked key) z xs ≡ kept (less key) (ranked key) z ys
      by (inr (x, one, t)) other =
          let in_other : AnyByRecursion (λ y. x ≡ y) ys = at_one (λ u. AnyByRecursion (λ y. u ≡ y) ys) (λ y. x ≡ y) (AnyByRecursion (λ y. x ≡ y) ys) xs
          (λ u p e. any_with (λ y. u ≡ y) (λ y. x ≡ y) (λ y f. e ∙ f) ys p) same.each one in
          one_kept z x xs first t one ∙ sym (one_kept z x ys second t in_other)
      by (inl none) (inl nothing) = none_kept z xs none ∙ sym (none_kept z ys nothing)
      by (inl none) (inr (y, one, t)) =
          let in_first : AnyByRecursion (λ x. x ≡ y) xs = at_one (λ u. AnyByRecursion (λ x. x ≡ u) xs) (λ u. y ≡ u) (AnyByRecursion (λ x. x ≡ y) xs) ys
          (λ u p e. any_with (λ x. x ≡ u) (λ x. x ≡ y) (λ x f. f ∙ sym e) xs p) same.other one in
          absurd (at_one (λ x. ties (less key) z x ≡ false) (λ x. x ≡ y) ⊥ xs (λ x f e. no_both (ties (less key) z y) t (ap (ties (less key) z) (sym e) ∙ f)) none in_first)

  pub same_in_order : (xs ys : List A) → AreDistinct (map key xs) → AreDistinct (map key ys) → SameElements (λ x y. x ≡ y) xs ys → sorted_by key xs ≡ sorted_by key ys
  same_in_order xs ys first second same = one_rising (less key) (ranked key) (sorted_by key xs) (sorted_by key ys) (rises_sorted key xs) (rises_sorted key ys)
      (λ z. kept_sorted key z xs ∙ same_kept xs ys first second same z ∙ sym (kept_sorted key z ys))

-- ---- tables of keys
abbrev pub is_in : List ℕ → List (List ℕ) → Bool
is_in k [] = false
is_in k (l ∷ ls) = bytes_eq k l || is_in k ls

abbrev pub are_distinct : List (List ℕ) → Bool
are_distinct [] = true
are_distinct (k ∷ ks) = not (is_in k ks) && are_distinct ks

abbrev pub keys_of : List (List ℕ × Option Json) → List (List ℕ)
keys_of parts = map (λ (p : List ℕ × Option Json). p.0) parts

pub and_first : (b c : Bool) → (not b && c) ≡ true → b ≡ false
and_first true c t = absurd (no_both false t refl)
and_first false c t = refl

pub and_second : (b c : Bool) → (not b && c) ≡ true → c ≡ true
and_second true c t = absurd (no_both false t refl)
and_second false c t = t

or_second : (b c : Bool) → c ≡ true → (b || c) ≡ true
or_second true c t = refl
or_second false c t = t

or_first : (b c : Bool) → b ≡ true → (b || c) ≡ true
or_first true c t = refl
or_first false c t = absurd (no_both false t refl)

first_key : (xs : List (List ℕ × Option Json)) (l : List ℕ) (w : Json) (ms : List (List ℕ × Json)) → present xs ≡ (l, w) ∷ ms → is_in l (keys_of xs) ≡ true
first_key [] l w ms e = absurd (let f : [] ≡ (l, w) ∷ ms = e in cc)
first_key ((k, None) ∷ xs) l w ms e = or_second (bytes_eq l k) (is_in l (keys_of xs)) (first_key xs l w ms e)
first_key ((k, Some v) ∷ xs) l w ms e =
    let f : (k, v) ∷ present xs ≡ (l, w) ∷ ms = e in
    let pair : (l, w) ≡ (k, v) = cc in
    let same : l ≡ k = ap (λ (p : List ℕ × Json). p.0) pair in
    or_first (bytes_eq l k) (is_in l (keys_of xs)) ((bytes_eq-Decides l k).1 same)

-- tables of the same distinct keys tell their values
pub present_told : (xs ys : List (List ℕ × Option Json)) → keys_of xs ≡ keys_of ys → are_distinct (keys_of xs) ≡ true → present xs ≡ present ys → xs ≡ ys
present_told [] [] keys distinct e = refl
present_told [] ((l, w) ∷ ys) keys distinct e = absurd (let f : [] ≡ l ∷ keys_of ys = keys in cc)
present_told ((k, v) ∷ xs) [] keys distinct e = absurd (let f : k ∷ keys_of xs ≡ [] = keys in cc)
present_told ((k, None) ∷ xs) ((l, None) ∷ ys) keys distinct e =
    let f : k ∷ keys_of xs ≡ l ∷ keys_of ys = keys in
    let rest : keys_of xs ≡ keys_of ys = cc in
    let first : k ≡ l = cc in
    let later : xs ≡ ys = present_told xs ys rest (and_second (is_in k (keys_of xs)) (are_distinct (keys_of xs)) distinct) e in
    λ i. (first i, None) ∷ later i
present_told ((k, None) ∷ xs) ((l, Some w) ∷ ys) keys distinct e =
    let f : k ∷ keys_of xs ≡ l ∷ keys_of ys = keys in
    let first : k ≡ l = cc in
    absurd (no_both (is_in l (keys_of xs)) (first_key xs l w (present ys) e)
    (ap (λ (m : List ℕ). is_in m (keys_of xs)) (sym first) ∙ and_first (is_in k (keys_of xs)) (are_distinct (keys_of xs)) distinct))
present_told ((k, Some v) ∷ xs) ((l, None) ∷ ys) keys distinct e =
    let f : k ∷ keys_of xs ≡ l ∷ keys_of ys = keys in
    let rest : keys_of xs ≡ keys_of ys = cc in
    absurd (no_both (is_in k (keys_of xs)) (ap (is_in k) rest ∙ first_key ys k v (present xs) (sym e))
    (and_first (is_in k (keys_of xs)) (are_distinct (keys_of xs)) distinct))
present_told ((k, Some v) ∷ xs) ((l, Some w) ∷ ys) keys distinct e =
    let f : k ∷ keys_of xs ≡ l ∷ keys_of ys = keys in
    let rest : keys_of xs ≡ keys_of ys = cc in
    let g : (k, v) ∷ present xs ≡ (l, w) ∷ present ys = e in
    let tails : present xs ≡ present ys = cc in
    let first : k ≡ l = cc in
    let pair : (k, v) ≡ (l, w) = cc in
    let value : v ≡ w = ap (λ (p : List ℕ × Json). p.1) pair in
    let later : xs ≡ ys = present_told xs ys rest (and_second (is_in k (keys_of xs)) (are_distinct (keys_of xs)) distinct) tails in
    λ i. (first i, Some (value i)) ∷ later i

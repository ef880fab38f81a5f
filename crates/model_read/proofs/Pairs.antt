-- Lists without equal elements, from the lists of values that declare them.
use Rattle.std.proofs.Common.{◌≡◌, ◌≢◌, ℕ, zero, suc, ◌<◌, List, [], ◌∷◌, take, map, Bool, true, false, ◌||◌, Option, Some, option_and_then, bytes_eq, refl, sym, ap, subst, ◌∙◌, arith}
use Rattle.std.specs.Prelude.{slice_get}
use Rattle.std.specs.List.{AllByRecursion, AllZip, list_any}
use Rattle.std.proofs.lemmas.Slice.Eq.{bytes_eq-Decides}
use Rattle.std.proofs.lemmas.Bool.{or_left, or_right}
use Rattle.json_decimal.specs.Number.{Number}
use Rattle.json_tree.specs.Values.{Json, Elements, no_elements, element}
use Rattle.json_tree.specs.Places.{element_at}
use Rattle.dtdl_terms.specs.Distinct.{AreDistinct}
use Rattle.json_tree.specs.Members.{list_of}
use Rattle.local_rules.specs.Repeats.{holds_some, is_among, repeats}

module _ {A : Type 0} where
  all_at : (P : A → Type 0) (xs : List A) → ((i : ℕ) (x : A) → slice_get xs i ≡ Some x → P x) → AllByRecursion P xs
  all_at P [] each = tt
  all_at P (x ∷ xs) each = (each zero x refl, all_at P xs (λ i y at. each (suc i) y at))

  pub distinct_pairs : (xs : List A) → ((i j : ℕ) (x y : A) → i < j → slice_get xs i ≡ Some x → slice_get xs j ≡ Some y → x ≡ y → ⊥) → AreDistinct xs
  distinct_pairs [] apart = tt
  distinct_pairs (x ∷ xs) apart = (
    all_at (λ y. x ≢ y) xs (λ j y at same. apart zero (suc j) x y (omega arith) refl at same),
    distinct_pairs xs (λ i j y z less first second same. apart (suc i) (suc j) y z (omega arith) first second same),
  )

  -- an element of a list of answers
  pub mapped_back : {B : Type 0} (f : B → A) (xs : List B) (i : ℕ) (y : A) → slice_get (map f xs) i ≡ Some y → (x : B) × (slice_get xs i ≡ Some x) × (f x ≡ y)
  mapped_back f [] i y at = absurd cc
  mapped_back f (x ∷ xs) zero y at = (x, refl, cc)
  mapped_back f (x ∷ xs) (suc i) y at = mapped_back f xs i y at

  -- the value that declares an element
  pub zip_at : (P : Json → A → Type 0) (vs : Elements Number) (xs : List A) (i : ℕ) (x : A) → AllZip P (list_of vs) xs → slice_get xs i ≡ Some x
      → (v : Json) × (element_at vs i ≡ Some v) × P v x
  zip_at P no_elements [] i x all at = absurd cc
  zip_at P no_elements (y ∷ xs) i x all at = absurd all
  zip_at P (element v vs) [] i x all at = absurd all
  zip_at P (element v vs) (y ∷ xs) zero x all at = let same : y ≡ x = cc in (v, refl, subst (P v) same all.0)
  zip_at P (element v vs) (y ∷ xs) (suc i) x all at = zip_at P vs xs i x all.1 at

mapped_at : {B : Type 0} (f : Json → B) (vs : Elements Number) (i : ℕ) (v : Json) → element_at vs i ≡ Some v → slice_get (map f (list_of vs)) i ≡ Some (f v)
mapped_at f no_elements i v at = absurd cc
mapped_at {B = B} f (element w vs) zero v at = let same : w ≡ v = cc in ap (λ (u : Json). Some (f u)) same
mapped_at f (element w vs) (suc i) v at = mapped_at f vs i v at

any_before : {X : Type 0} (test : X → Bool) (xs : List X) (i j : ℕ) (x : X) → i < j → slice_get xs i ≡ Some x → test x ≡ true → list_any test (take j xs) ≡ true
any_before test [] i j x less at on = absurd cc
any_before test (y ∷ xs) i zero x less at on = absurd (omega arith)
any_before test (y ∷ xs) zero (suc j) x less at on = let same : y ≡ x = cc in or_left (test y) (list_any test (take j xs)) (ap test same ∙ on)
any_before test (y ∷ xs) (suc i) (suc j) x less at on = or_right (test y) (list_any test (take j xs)) (any_before test xs i j x (omega arith) at on)

-- one that is equal to an earlier one repeats it
repeats_earlier : (xs : List (Option (List ℕ))) (i j : ℕ) (t : List ℕ) → i < j → slice_get xs i ≡ Some (Some t) → slice_get xs j ≡ Some (Some t)
    → repeats bytes_eq xs j ≡ true
repeats_earlier xs i j t less first second =
    ap (λ (o : Option (Option (List ℕ))). is_among bytes_eq (take j xs) (option_and_then (λ x. x) o)) second
    ∙ any_before (holds_some (λ (y : List ℕ). bytes_eq y t)) xs i j (Some t) less first ((bytes_eq-Decides t t).1 refl)

-- Elements whose texts stand in the values of a list, of which none repeats an earlier one, are distinct.
pub apart : {A : Type 0} (bytes : A → List ℕ) (look : Json → Option (List ℕ)) (vs : Elements Number) (xs : List A)
    → ((i : ℕ) (x : A) → slice_get xs i ≡ Some x → (v : Json) × (element_at vs i ≡ Some v) × (look v ≡ Some (bytes x)))
    → ((j : ℕ) (x : A) → slice_get xs j ≡ Some x → repeats bytes_eq (map look (list_of vs)) j ≡ true → ⊥) → AreDistinct xs
apart {A = A} bytes look vs xs at free = distinct_pairs xs (λ i j x y less first second same.
    let a = at i x first in
    let b = at j y second in
    let one : slice_get (map look (list_of vs)) i ≡ Some (Some (bytes x)) = mapped_at look vs i a.0 a.1 ∙ ap (λ (o : Option (List ℕ)). Some o) a.2 in
    let two : slice_get (map look (list_of vs)) j ≡ Some (Some (bytes x)) = mapped_at look vs j b.0 b.1
    ∙ ap (λ (o : Option (List ℕ)). Some o) (b.2 ∙ ap (λ (z : A). Some (bytes z)) (sym same)) in
    free j y second (repeats_earlier (map look (list_of vs)) i j (bytes x) less one two))

-- In a canonical list nothing repeats what is distinct in the record.
use Rattle.std.proofs.Common.{◌≡◌, ◌≢◌, ℕ, zero, suc, List, [], ◌∷◌, map, take, Bool, true, false, ◌||◌, if◌then◌else◌, Option, Some, None, option_and_then, bytes_eq, refl, sym, ap, subst, ◌∙◌}
use Rattle.std.specs.Prelude.{slice_get}
use Rattle.std.specs.List.{AllByRecursion}
use Rattle.std.proofs.lemmas.Slice.Eq.{bytes_eq-Decides}
use Rattle.json_tree.specs.Values.{Json, elements_of}
use Rattle.json_tree.specs.Members.{list_of}
use Rattle.local_rules.specs.Repeats.{holds_some, is_among, repeats}
use Rattle.dtdl_terms.specs.Distinct.{AreDistinct}
use Rattle.canon_text.specs.Sorting.{is_before, put_by, sorted_by}
use Rattle.canon_text.specs.Machinery.Pairs.{pair_name, pair_value}
use Rattle.canon_text.proofs.Told.{all_put, all_sorted}
use Rattle.canon_faults.proofs.Good.{Pairs, list_again}

-- ---- pairs of elements
abbrev pub Pairwise : {A : Type 0} → (A → A → Type 0) → List A → Type 0
Pairwise R [] = Unit {0}
Pairwise R (x ∷ xs) = AllByRecursion (λ y. R x y) xs × Pairwise R xs

module _ {A : Type 0} (key : A → List ℕ) (R : A → A → Type 0) (both : (x y : A) → R x y → R y x) where
  pairwise_put : (x : A) (ys : List A) → AllByRecursion (λ y. R x y) ys → Pairwise R ys → Pairwise R (put_by key x ys)
  pairwise_put x [] h p = (tt, tt)
  pairwise_put x (y ∷ ys) h p = by (is_before (key y) (key x)) (pairwise_put x ys h.1 p.1)
    where
      by : (b : Bool) → Pairwise R (put_by key x ys) → Pairwise R (if b then y ∷ put_by key x ys else x ∷ y ∷ ys)
      by true later = (all_put key (λ z. R y z) x ys (both x y h.0) p.0, later)
      by false later = (h, p)

  pub pairwise_sorted : (xs : List A) → Pairwise R xs → Pairwise R (sorted_by key xs)
  pairwise_sorted [] p = tt
  pairwise_sorted (x ∷ xs) p = pairwise_put x (sorted_by key xs) (all_sorted key (λ y. R x y) xs p.0) (pairwise_sorted xs p.1)

-- ---- nothing repeats in a list whose elements differ
abbrev Differ : {X : Type 0} → Option X → Option X → Type 0
Differ {X = X} o p = (x y : X) → o ≡ Some x → p ≡ Some y → x ≡ y → ⊥

module _ {X : Type 0} (same : X → X → Bool) (exact : (x y : X) → same x y ≡ true → x ≡ y) where
  or_cases : (a b : Bool) (C : Type 0) → (a || b) ≡ true → (a ≡ true → C) → (b ≡ true → C) → C
  or_cases true b C is first second = first refl
  or_cases false b C is first second = second is

  not_held : (o : Option X) (x : X) → Differ o (Some x) → holds_some (λ y. same y x) o ≡ true → ⊥
  not_held None x differ held = cc
  not_held (Some y) x differ held = differ y x refl refl (exact y x held)

  -- what differs from each differs from the one at a position
  differs_at : (o : Option X) (os : List (Option X)) (i : ℕ) (x : X) → AllByRecursion (λ p. Differ o p) os → option_and_then (λ p. p) (slice_get os i) ≡ Some x
      → Differ o (Some x)
  differs_at o [] i x all at = absurd cc
  differs_at o (p ∷ os) zero x all at = subst (λ (q : Option X). Differ o q) at all.0
  differs_at o (p ∷ os) (suc i) x all at = differs_at o os i x all.1 at

  none_among : (os : List (Option X)) (p : Option X) → ((x : X) → p ≡ Some x → is_among same os (Some x) ≡ true → ⊥) → is_among same os p ≡ true → ⊥
  none_among os None none is = cc
  none_among os (Some x) none is = none x refl is

  no_repeat : (os : List (Option X)) (i : ℕ) → Pairwise Differ os → repeats same os i ≡ true → ⊥
  no_repeat [] i apart is = cc
  no_repeat (o ∷ os) zero apart is = none_among [] o (λ x e f. cc) is
  no_repeat (o ∷ os) (suc i) apart is = none_among (o ∷ take i os) (option_and_then (λ p. p) (slice_get os i)) (λ x at among.
      or_cases (holds_some (λ y. same y x) o) (is_among same (take i os) (Some x)) ⊥ among
      (not_held o x (differs_at o os i x apart.0 at))
      (λ later. no_repeat os i apart.1 (ap (is_among same (take i os)) at ∙ later))) is

  -- ---- a canonical list
  module _ (look : Json → Option X) where
    abbrev pub PairsDiffer : List ℕ × Json → List ℕ × Json → Type 0
    PairsDiffer m n = Differ (look (pair_value m)) (look (pair_value n))

    each_mapped : (v : Json) (ms : Pairs) → AllByRecursion (λ n. Differ (look v) (look (pair_value n))) ms
        → AllByRecursion (λ p. Differ (look v) p) (map look (map pair_value ms))
    each_mapped v [] all = tt
    each_mapped v (m ∷ ms) all = (all.0, each_mapped v ms all.1)

    looked : (ms : Pairs) → Pairwise PairsDiffer ms → Pairwise Differ (map look (map pair_value ms))
    looked [] p = tt
    looked (m ∷ ms) p = (each_mapped (pair_value m) ms p.0, looked ms p.1)

    pub nothing_repeats : (ms : Pairs) (i : ℕ) → Pairwise PairsDiffer ms
        → repeats same (map look (list_of (elements_of (map pair_value (sorted_by pair_name ms))))) i ≡ true → ⊥
    nothing_repeats ms i p is =
        no_repeat (map look (map pair_value (sorted_by pair_name ms))) i
        (looked (sorted_by pair_name ms) (pairwise_sorted pair_name PairsDiffer (λ m n differ x y e f same_one. differ y x f e (sym same_one)) ms p))
        (sym (ap (λ (vs : List Json). repeats same (map look vs) i) (list_again (map pair_value (sorted_by pair_name ms)))) ∙ is)

-- ---- by names
-- each value has the name of its pair
abbrev pub Named : (Json → Option (List ℕ)) → List ℕ × Json → Type 0
Named look m = look (pair_value m) ≡ Some (pair_name m)

module _ (look : Json → Option (List ℕ)) where
  exact_bytes : (a b : List ℕ) → bytes_eq a b ≡ true → a ≡ b
  exact_bytes a b is = (bytes_eq-Decides a b).0 is

  differ_each : (m : List ℕ × Json) (ms : Pairs) → Named look m → AllByRecursion (Named look) ms → AllByRecursion (λ k. pair_name m ≢ k) (map pair_name ms)
      → AllByRecursion (λ n. PairsDiffer bytes_eq exact_bytes look m n) ms
  differ_each m [] h all apart = tt
  differ_each m (n ∷ ns) h all apart = (
    λ x y e f same.
        let first : pair_name m ≡ x = (let g : Some (pair_name m) ≡ Some x = sym h ∙ e in cc) in
        let second : pair_name n ≡ y = (let g : Some (pair_name n) ≡ Some y = sym all.0 ∙ f in cc) in
        apart.0 (first ∙ same ∙ sym second),
    differ_each m ns h all.1 apart.1,
  )

  named_differ : (ms : Pairs) → AllByRecursion (Named look) ms → AreDistinct (map pair_name ms) → Pairwise (PairsDiffer bytes_eq exact_bytes look) ms
  named_differ [] all apart = tt
  named_differ (m ∷ ms) all apart = (differ_each m ms all.0 all.1 apart.0, named_differ ms all.1 apart.1)

  pub names_repeat_nothing : (ms : Pairs) (i : ℕ) → AllByRecursion (Named look) ms → AreDistinct (map pair_name ms)
      → repeats bytes_eq (map look (list_of (elements_of (map pair_value (sorted_by pair_name ms))))) i ≡ true → ⊥
  names_repeat_nothing ms i all apart = nothing_repeats bytes_eq exact_bytes look ms i (named_differ ms all apart)

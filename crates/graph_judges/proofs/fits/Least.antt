-- The first of a list in order is the least in it; and the least of two kinds is the lesser of the least of each.
use Rattle.std.proofs.Common.{◌≡◌, ◌⊎◌, inl, inr, List, [], ◌∷◌, map, Bool, true, false, cond, Option, Some, None, refl, sym, ap, ◌∙◌, subst, true≢false, Ordering, Less, Equal, Greater, arith}
use Rattle.std.specs.Prelude.{Contains, IsTrue}
use Rattle.std.specs.Cmp.{IsTotalOrder}
use Rattle.std.specs.Ordering.{is_lt, ordering_reverse}
use Rattle.std.specs.List.{AllByRecursion, filter}
use Rattle.std.specs.List.Sorted.{IsStrictlySortedBy}
use Rattle.std.proofs.lemmas.Cmp.{tied_itself}
use Rattle.std.proofs.lemmas.Map.Keys.{sorted_head, sorted_tail}
use Rattle.model_life.proofs.sets.Apart.{contains_head, contains_tail, uncons}
use Rattle.graph_steps.proofs.invariants.Lists.{all_at}
use Rattle.graph_steps.proofs.invariants.Stable.{less_of}
use Rattle.graph_judges.specs.fits.Machinery.Firsts.{IsFirstOf, IsLeastOf, lesser}

none_in : {X : Type 0} (x : X) → Contains [] x → ⊥
none_in x (k, low, is) = omega (arith, low)

-- What is said of one kind is said of another that holds of the same.
pub least_same : {X : Type 0} (R : X → X → Ordering) (A B : X → Type 0) → ((x : X) → A x → B x) → ((x : X) → B x → A x) → (o : Option X) → IsLeastOf R A o → IsLeastOf R B o
least_same R A B to back None h = λ x b. h x (back x b)
least_same R A B to back (Some y) h = (to y h.0, λ x b. h.1 x (back x b))

module _ {X K : Type 0} (R : K → K → Ordering) (total : IsTotalOrder R) (key : X → K) where
  abbrev pub by_key : X → X → Ordering
  by_key a b = R (key a) (key b)

  -- ---- lists in order
  abbrev Behind : X → X → Type 0
  Behind y x = by_key y x ≡ Less

  unmapped : (k : K) (xs : List X) → AllByRecursion (λ q. R k q ≡ Less) (map key xs) → AllByRecursion (λ x. R k (key x) ≡ Less) xs
  unmapped k [] all = tt
  unmapped k (x ∷ xs) all = (all.0, unmapped k xs all.1)

  mapped : (k : K) (xs : List X) → AllByRecursion (λ x. R k (key x) ≡ Less) xs → AllByRecursion (λ q. R k q ≡ Less) (map key xs)
  mapped k [] all = tt
  mapped k (x ∷ xs) all = (all.0, mapped k xs all.1)

  not_before_itself : (x : X) → IsTrue (is_lt (by_key x x)) → ⊥
  not_before_itself x h = true≢false (sym h ∙ ap is_lt (tied_itself total (key x)))

  not_before : (x y : X) → by_key y x ≡ Less → IsTrue (is_lt (by_key x y)) → ⊥
  not_before x y less h = true≢false (sym h ∙ ap is_lt (total.antisymm (key x) (key y) ∙ ap ordering_reverse less))

  -- ---- the first is the least
  module _ (Bad : X → Type 0) where
    abbrev In : List X → X → Type 0
    In xs x = Contains xs x × Bad x

    later_least : (y : X) (ys : List X) → (Bad y → ⊥) → (o : Option X) → IsLeastOf by_key (In ys) o → IsLeastOf by_key (In (y ∷ ys)) o
    later_least y ys good None h = λ x is. elim (uncons y ys x is.0) [ inl same ↦ good (subst Bad (sym same) is.1) | inr c ↦ h x (c, is.1) ]
    later_least y ys good (Some z) h = (
      (contains_tail y ys z h.0.0, h.0.1),
      λ x is less. elim (uncons y ys x is.0) [ inl same ↦ good (subst Bad (sym same) is.1) | inr c ↦ h.1 x (c, is.1) less ],
    )

    head_least : (y : X) (ys : List X) → AllByRecursion (Behind y) ys → Bad y → IsLeastOf by_key (In (y ∷ ys)) (Some y)
    head_least y ys behind bad = (
      (contains_head y ys, bad),
      λ x is less. elim (uncons y ys x is.0) [
        | inl same ↦ not_before_itself y (subst (λ (z : X). IsTrue (is_lt (by_key z y))) (sym same) less)
        | inr c ↦ not_before x y (all_at (Behind y) ys x behind c) less
      ],
    )

    pub first_least : (xs : List X) → IsStrictlySortedBy R (map key xs) → (o : Option X) → IsFirstOf Bad xs o → IsLeastOf by_key (In xs) o
    first_least [] sorted None first = λ x is. none_in x is.0
    first_least [] sorted (Some y) first = absurd first
    first_least (y ∷ ys) sorted o (inl (good, first)) = later_least y ys good o (first_least ys (sorted_tail R (key y) (map key ys) sorted) o first)
    first_least (y ∷ ys) sorted o (inr (bad, is)) =
        subst (IsLeastOf by_key (In (y ∷ ys))) (sym is) (head_least y ys (unmapped (key y) ys (sorted_head R (key y) (map key ys) sorted)) bad)

  -- ---- the least of two kinds
  module _ (A B : X → Type 0) where
    abbrev Either : X → Type 0
    Either x = A x ⊎ B x

    turned : (a b : X) → is_lt (by_key b a) ≡ false → (x : X) → by_key x a ≡ Less → (o : Ordering) → by_key x b ≡ o → IsTrue (is_lt (by_key x b))
    turned a b not x less Less e = ap is_lt e
    turned a b not x less Equal e = absurd (true≢false (sym (ap is_lt less) ∙ ap is_lt (total.congr (key x) (key b) (key a) e) ∙ not))
    turned a b not x less Greater e =
        let back : by_key b x ≡ Less = total.antisymm (key b) (key x) ∙ ap ordering_reverse e in
        absurd (true≢false (sym (ap is_lt (total.trans (key b) (key x) (key a) back less)) ∙ not))

    both : (a b : X) → A a × ((x : X) → A x → IsTrue (is_lt (by_key x a)) → ⊥) → B b × ((x : X) → B x → IsTrue (is_lt (by_key x b)) → ⊥) → (t : Bool) → is_lt (by_key b a) ≡ t → IsLeastOf by_key Either (Some (cond t b a))
    both a b ha hb true e = (
      inr hb.0,
      λ x is less. elim is [
        | inl h ↦ ha.1 x h (ap is_lt (total.trans (key x) (key b) (key a) (less_of (by_key x b) less) (less_of (by_key b a) e)))
        | inr h ↦ hb.1 x h less
      ],
    )
    both a b ha hb false e = (
      inl ha.0,
      λ x is less. elim is [
        | inl h ↦ ha.1 x h less
        | inr h ↦ hb.1 x h (turned a b e x (less_of (by_key x a) less) (by_key x b) refl)
      ],
    )

    pub lesser_least : (a b : Option X) → IsLeastOf by_key A a → IsLeastOf by_key B b → IsLeastOf by_key Either (lesser by_key a b)
    lesser_least None b ha hb = least_same by_key B Either (λ x h. inr h) (λ x is. elim is [ inl h ↦ absurd (ha x h) | inr h ↦ h ]) b hb
    lesser_least (Some a) None ha hb = least_same by_key A Either (λ x h. inl h) (λ x is. elim is [ inl h ↦ h | inr h ↦ absurd (hb x h) ]) (Some a) ha
    lesser_least (Some a) (Some b) ha hb = both a b ha hb (is_lt (by_key b a)) refl

  -- ---- those that pass a test, in order
  passing : (P : X → Type 0) (p : X → Bool) (xs : List X) → AllByRecursion P xs → AllByRecursion P (filter p xs)
  passing P p [] all = tt
  passing P p (x ∷ xs) all = elim (p x) as (λ b. AllByRecursion P (cond b (x ∷ filter p xs) (filter p xs))) [ true ↦ (all.0, passing P p xs all.1) | false ↦ passing P p xs all.1 ]

  pub sorted_passing : (p : X → Bool) (xs : List X) → IsStrictlySortedBy R (map key xs) → IsStrictlySortedBy R (map key (filter p xs))
  unfolding IsStrictlySortedBy
  sorted_passing p [] sorted = tt
  sorted_passing p (x ∷ xs) sorted =
      let behind = mapped (key x) (filter p xs) (passing (Behind x) p xs (unmapped (key x) xs sorted.0)) in
      let rest = sorted_passing p xs sorted.1 in
      elim (p x) as (λ b. IsStrictlySortedBy R (map key (cond b (x ∷ filter p xs) (filter p xs)))) [ true ↦ (behind, rest) | false ↦ rest ]

-- ---- the first of a list, as it is gone through
module _ {X : Type 0} (Bad : X → Type 0) (xs : List X) where
  pub first_none : xs ≡ [] → IsFirstOf Bad xs None
  first_none none = subst (λ (ys : List X). IsFirstOf Bad ys None) (sym none) tt

  module _ (x : X) (ys : List X) (steps : xs ≡ x ∷ ys) where
    pub first_bad : Bad x → IsFirstOf Bad xs (Some x)
    first_bad bad = subst (λ (zs : List X). IsFirstOf Bad zs (Some x)) (sym steps) (inr (bad, refl))

    pub first_later : (Bad x → ⊥) → (o : Option X) → IsFirstOf Bad ys o → IsFirstOf Bad xs o
    first_later good o first = subst (λ (zs : List X). IsFirstOf Bad zs o) (sym steps) (inl (good, first))

-- What chains of extension reach, as lists.
use Rattle.std.proofs.Common.{◌≡◌, ◌↔◌, ℕ, zero, suc, ◌≤◌, inl, inr, List, [], ◌∷◌, length, Bool, true, false, ◌||◌, Option, Some, None, refl, sym, ap, subst, ◌∙◌, arith}
use Rattle.std.specs.Prelude.{Contains, IsTrue}
use Rattle.std.specs.List.{list_any, flat_map}
use Rattle.std.proofs.lemmas.List.Elements.{Contains-append_left, Contains-append_right, Contains-append_cases}
use Rattle.std.proofs.lemmas.List.Folds.{list_any-append}
use Rattle.std.proofs.lemmas.Option.{same_Some}
use Rattle.dt_base.specs.names.Grammar.{Identifier, dtmi_text, id_eq}
use Rattle.dtdl_terms.specs.Sets.{interface_at}
use Rattle.dtdl_terms.specs.declared.interface.Interface.{Interface}
use Rattle.extend_resolve.specs.Breaches.{BreaksNoRule}
use Rattle.extend_resolve.specs.Chains.{IsChain, chain_end, IsAncestor}
use Rattle.extend_resolve.specs.Machinery.Within.{interface_passes, reaches_within}
use Rattle.extend_resolve.proofs.Within.{found_placed, decided}
use Rattle.model_life.specs.resolution.Machinery.Families.{IsThere}
use Rattle.model_life.proofs.resolution.Families.{ten_at_most}
use Rattle.model_life.proofs.sets.Apart.{contains_head, contains_tail, uncons}
use Rattle.graph_steps.specs.Inherited.{those, reached, ancestors, is_a}

-- ---- elements of lists of lists
module _ {X A : Type 0} (f : X → List A) where
  pub in_flat : (xs : List X) (a : A) → Contains (flat_map f xs) a → (x : X) × Contains xs x × Contains (f x) a
  in_flat [] a h = absurd (omega (arith, h.1))
  in_flat (x ∷ xs) a h = elim (Contains-append_cases (f x) (flat_map f xs) a h) [
    | inl here ↦ (x, contains_head x xs, here)
    | inr later ↦ let r = in_flat xs a later in (r.0, contains_tail x xs r.0 r.1, r.2)
  ]

  pub to_flat : (xs : List X) (a : A) (x : X) → Contains xs x → Contains (f x) a → Contains (flat_map f xs) a
  to_flat [] a x h g = absurd (omega (arith, h.1))
  to_flat (y ∷ ys) a x h g = elim (uncons y ys x h) [
    | inl e ↦ Contains-append_left (f y) (flat_map f ys) a (subst (λ (z : X). Contains (f z) a) (sym e) g)
    | inr later ↦ Contains-append_right (f y) (flat_map f ys) a (to_flat ys a x later g)
  ]

pub in_those : {A : Type 0} (o : Option A) (f : A → List Interface) (i : Interface) → Contains (those o f) i → (a : A) × (o ≡ Some a) × Contains (f a) i
in_those None f i h = absurd (omega (arith, h.1))
in_those (Some a) f i h = (a, refl, h)

pub to_those : {A : Type 0} (o : Option A) (f : A → List Interface) (i : Interface) (a : A) → o ≡ Some a → Contains (f a) i → Contains (those o f) i
to_those o f i a e h = subst (λ p. Contains (those p f) i) (sym e) h

-- ---- the ancestors
abbrev above : List Interface → ℕ → Identifier → List Interface
above set n p = those (interface_at p set) (reached n set)

module _ (set : List Interface) where
  only_itself : (i a : Interface) → Contains (i ∷ []) a → i ≡ a
  only_itself i a h = elim (uncons i [] a h) [ inl e ↦ e | inr later ↦ absurd (omega (arith, later.1)) ]

  pub reached_by : (n : ℕ) (i a : Interface) → Contains (reached n set i) a → (js : List Interface) × IsChain set i js × (length js ≤ n) × (chain_end i js ≡ a)
  reached_by zero i a h = ([], tt, omega arith, only_itself i a h)
  reached_by (suc n) i a h = elim (uncons i (flat_map (above set n) i.parents) a h) [
    | inl e ↦ ([], tt, omega arith, e)
    | inr later ↦
        let p = in_flat (above set n) i.parents a later in
        let j = in_those (interface_at p.0 set) (reached n set) a p.2 in
        let r = reached_by n j.0 a j.2 in
        let low : length r.0 ≤ n = r.2 in
        (j.0 ∷ r.0, ((p.0, p.1, j.1), r.1), omega (arith, low), r.3)
  ]

  pub reached_all : (n : ℕ) (i : Interface) (js : List Interface) → IsChain set i js → length js ≤ n → Contains (reached n set i) (chain_end i js)
  reached_all zero i [] chain short = contains_head i []
  reached_all (suc n) i [] chain short = contains_head i (flat_map (above set n) i.parents)
  reached_all zero i (j ∷ js) chain short = absurd (omega (arith, short))
  reached_all (suc n) i (j ∷ js) ((p, named, found), chain) short =
      let a : Interface = chain_end j js in
      contains_tail i (flat_map (above set n) i.parents) a
      (to_flat (above set n) i.parents a p named (to_those (interface_at p set) (reached n set) a j found (reached_all n j js chain (omega (arith, short)))))

  pub ancestors_are : BreaksNoRule set → (i : Interface) → IsThere set i → (a : Interface) → Contains (ancestors set i) a ↔ IsAncestor set i a
  ancestors_are sound i there a = (
    λ h. let r = reached_by 10 i a h in (r.0, r.1, r.3),
    λ (js, chain, is). subst (Contains (ancestors set i)) is (reached_all 10 i js chain (ten_at_most set sound i there js chain)),
  )

-- ---- whether an interface is, or extends, another
or_false : (b : Bool) → (b || false) ≡ b
or_false true = refl
or_false false = refl

any_flat : {X A : Type 0} (p : A → Bool) (f : X → List A) (xs : List X) → list_any p (flat_map f xs) ≡ list_any (λ x. list_any p (f x)) xs
any_flat p f [] = refl
any_flat p f (x ∷ xs) = list_any-append p (f x) (flat_map f xs) ∙ ap (λ b. list_any p (f x) || b) (any_flat p f xs)

any_same : {X : Type 0} (p q : X → Bool) → ((x : X) → p x ≡ q x) → (xs : List X) → list_any p xs ≡ list_any q xs
any_same p q same [] = refl
any_same p q same (x ∷ xs) = ap (λ b. b || list_any p xs) (same x) ∙ ap (λ b. q x || b) (any_same p q same xs)

any_those : (p : Interface → Bool) (f : Interface → List Interface) (test : Interface → Bool) → ((i : Interface) → list_any p (f i) ≡ test i) → (o : Option Interface) → list_any p (those o f) ≡ interface_passes test o
any_those p f test same None = refl
any_those p f test same (Some i) = same i

abbrev has_id : Identifier → Interface → Bool
has_id id a = id_eq a.id id

module _ (set : List Interface) (id : Identifier) where
  any_reached : (n : ℕ) (i : Interface) → list_any (has_id id) (reached n set i) ≡ reaches_within set id n i
  any_reached zero i = or_false (id_eq i.id id)
  any_reached (suc n) i =
      ap (λ b. id_eq i.id id || b)
      (any_flat (has_id id) (λ p. those (interface_at p set) (reached n set)) i.parents
      ∙ any_same (λ p. list_any (has_id id) (those (interface_at p set) (reached n set))) (λ p. interface_passes (reaches_within set id n) (interface_at p set))
      (λ p. any_those (has_id id) (reached n set) (reaches_within set id n) (any_reached n) (interface_at p set)) i.parents)

  pub is_a_by_ancestors : BreaksNoRule set → (i : Interface) → IsThere set i → IsTrue (is_a set i id) ↔ ((a : Interface) × IsAncestor set i a × (dtmi_text a.id ≡ dtmi_text id))
  is_a_by_ancestors sound i there =
      let at = found_placed set i.id i there in
      let ten = decided set sound id at.0 i at.1 in
      (λ h. ten.0 (sym (any_reached 10 i) ∙ h), λ h. any_reached 10 i ∙ ten.1 h)

-- what `extend_resolve` answers
both_ways : (b c : Bool) → (b ≡ true → c ≡ true) → (c ≡ true → b ≡ true) → b ≡ c
both_ways true c there back = sym (there refl)
both_ways false true there back = back refl
both_ways false false there back = refl

pub is_a_answer : (set : List Interface) (id : Identifier) → BreaksNoRule set → (i : Interface) → IsThere set i → (b : Bool)
    → (IsTrue b ↔ ((j a : Interface) × (interface_at i.id set ≡ Some j) × IsAncestor set j a × (dtmi_text a.id ≡ dtmi_text id))) → b ≡ is_a set i id
is_a_answer set id sound i there b h =
    let by = is_a_by_ancestors set id sound i there in
    both_ways b (is_a set i id)
    (λ e.
    let r = h.0 e in
    let same : r.0 ≡ i = same_Some r.0 i (sym r.2 ∙ there) in
    by.1 (r.1, subst (λ (x : Interface). IsAncestor set x r.1) same r.3, r.4))
    (λ e. let r = by.0 e in h.1 (i, r.0, there, r.1, r.2))

-- Elements of lists by position, and interfaces no two of which have one identifier.
use Rattle.std.proofs.Common.{◌≡◌, ◌≢◌, ℕ, zero, suc, ◌<◌, ◌⊎◌, inl, inr, List, [], ◌∷◌, ◌++◌, map, take, true, false, cond, length, slice_index_or, Some, refl, sym, ap, ◌∙◌, subst, true≢false, Less, is_eq, arith}
use Rattle.std.specs.Prelude.{slice_get, Contains}
use Rattle.std.specs.List.{AllByRecursion}
use Rattle.std.specs.List.Sorted.{IsStrictlySortedBy}
use Rattle.std.proofs.lemmas.Option.{same_Some, none-some}
use Rattle.dt_base.specs.names.Grammar.{Identifier, dtmi_text, id_cmp}
use Rattle.dtdl_terms.specs.Sets.{InOrder, interface_at}
use Rattle.dtdl_terms.specs.declared.interface.Interface.{Interface}
use Rattle.extend_resolve.specs.SetRules.{RepeatsId}
use Rattle.extend_resolve.proofs.Members.{all_at, mapped_at}
use Rattle.model_life.proofs.resolution.ByKey.{C, same_spelling, alike}
use Rattle.model_life.specs.sets.Changing.{HaveDistinctIds}

module _ {X : Type 0} where
  pub contains_head : (y : X) (ys : List X) → Contains (y ∷ ys) y
  contains_head y ys = (zero, omega arith, refl)

  pub contains_tail : (y : X) (ys : List X) (x : X) → Contains ys x → Contains (y ∷ ys) x
  contains_tail y ys x (k, low, is) = (suc k, omega (arith, low), is)

  uncons_at : (y : X) (ys : List X) (x : X) (k : ℕ) → k < length (y ∷ ys) → slice_index_or (y ∷ ys) k x ≡ x → (y ≡ x) ⊎ Contains ys x
  uncons_at y ys x zero low is = inl is
  uncons_at y ys x (suc k) low is = inr (k, omega (arith, low), is)

  pub uncons : (y : X) (ys : List X) (x : X) → Contains (y ∷ ys) x → (y ≡ x) ⊎ Contains ys x
  uncons y ys x (k, low, is) = uncons_at y ys x k low is

  pub contains_append : (xs ys : List X) (x : X) → Contains (xs ++ ys) x → Contains xs x ⊎ Contains ys x
  contains_append [] ys x h = inr h
  contains_append (y ∷ xs) ys x h =
      elim (uncons y (xs ++ ys) x h) [
        | inl e ↦ inl (subst (Contains (y ∷ xs)) e (contains_head y xs))
        | inr t ↦ elim (contains_append xs ys x t) [ inl a ↦ inl (contains_tail y xs x a) | inr b ↦ inr b ]
      ]

  pub placed_append : (xs ys : List X) (k : ℕ) (x : X) → slice_get (xs ++ ys) k ≡ Some x
      → ((slice_get xs k ≡ Some x) × (take k (xs ++ ys) ≡ take k xs)) ⊎ ((n : ℕ) × (slice_get ys n ≡ Some x) × (take k (xs ++ ys) ≡ xs ++ take n ys))
  placed_append [] ys k x h = inr (k, h, refl)
  placed_append (y ∷ xs) ys zero x h = inl (h, refl)
  placed_append (y ∷ xs) ys (suc k) x h =
      elim (placed_append xs ys k x h) [
        | inl a ↦ inl (a.0, ap (λ zs. y ∷ zs) a.1)
        | inr b ↦ inr (b.0, b.1, ap (λ zs. y ∷ zs) b.2)
      ]

pub map-take : {X Y : Type 0} (f : X → Y) (n : ℕ) (xs : List X) → map f (take n xs) ≡ take n (map f xs)
map-take f zero [] = refl
map-take f zero (x ∷ xs) = refl
map-take f (suc n) [] = refl
map-take f (suc n) (x ∷ xs) = ap (λ ys. f x ∷ ys) (map-take f n xs)

-- ---- identifiers that differ
pub unlike : (a b : Identifier) → dtmi_text a ≢ dtmi_text b → is_eq (id_cmp a b) ≡ false
unlike a b ne =
    elim (is_eq (id_cmp a b)) as (λ t. is_eq (id_cmp a b) ≡ t → t ≡ false) [
      | true ↦ λ e. absurd (ne (same_spelling (dtmi_text a) (dtmi_text b) e))
      | false ↦ λ _. refl
    ] refl

abbrev pub text : Interface → List ℕ
text i = dtmi_text i.id

apart_at : (y : Interface) (ys : List Interface) → AllByRecursion (λ t. text y ≢ t) (map text ys) → (k : ℕ) (i : Interface) → slice_get ys k ≡ Some i → text y ≢ text i
apart_at y ys all k i at = all_at (λ t. text y ≢ t) (map text ys) k (text i) all (mapped_at text ys k i at)

pub there_apart : (is : List Interface) → HaveDistinctIds is → (k : ℕ) (i : Interface) → slice_get is k ≡ Some i → interface_at i.id is ≡ Some i
there_apart [] apart k i at = absurd (none-some i at)
there_apart (y ∷ ys) apart zero i at =
    let e : y ≡ i = same_Some y i at in
    ap (λ (z : Interface). interface_at z.id (y ∷ ys)) (sym e) ∙ ap (λ b. cond b (Some y) (interface_at y.id ys)) (ap is_eq (alike (text y))) ∙ ap Some e
there_apart (y ∷ ys) apart (suc k) i at =
    let other : is_eq (id_cmp i.id y.id) ≡ false = unlike i.id y.id (λ e. apart_at y ys apart.0 k i at (sym e)) in
    ap (λ b. cond b (Some y) (interface_at i.id ys)) other ∙ there_apart ys apart.1 k i at

pub not_before : (is : List Interface) → HaveDistinctIds is → (k : ℕ) (i : Interface) → slice_get is k ≡ Some i → RepeatsId (take k is) i → ⊥
not_before [] apart k i at r = none-some i at
not_before (y ∷ ys) apart zero i at (e, has, same) = omega (arith, has.1)
not_before (y ∷ ys) apart (suc k) i at (e, has, same) =
    elim (uncons y (take k ys) e has) [
      | inl is ↦ apart_at y ys apart.0 k i at (ap text is ∙ same)
      | inr later ↦ not_before ys apart.1 k i at (e, later, same)
    ]

below_apart : (y : Interface) (ys : List Interface) → AllByRecursion (λ j. id_cmp y.id j ≡ Less) (map (λ i. i.id) ys) → AllByRecursion (λ t. text y ≢ t) (map text ys)
below_apart y [] all = tt
below_apart y (z ∷ zs) all = (
  λ e. true≢false (sym (ap is_eq (alike (text y))) ∙ ap (λ t. is_eq (C (text y) t)) e ∙ ap is_eq all.0),
  below_apart y zs all.1,
)

pub apart_ordered : (is : List Interface) → InOrder is → HaveDistinctIds is
unfolding IsStrictlySortedBy
apart_ordered [] sorted = tt
apart_ordered (y ∷ ys) sorted = (below_apart y ys sorted.0, apart_ordered ys sorted.1)

all_apart : (y : Interface) (ys : List Interface) → ((k : ℕ) (i : Interface) → slice_get ys k ≡ Some i → text y ≢ text i) → AllByRecursion (λ t. text y ≢ t) (map text ys)
all_apart y [] h = tt
all_apart y (z ∷ zs) h = (h zero z refl, all_apart y zs (λ k i at. h (suc k) i at))

pub apart_from : (is : List Interface) → ((k : ℕ) (i : Interface) → slice_get is k ≡ Some i → RepeatsId (take k is) i → ⊥) → HaveDistinctIds is
apart_from [] h = tt
apart_from (y ∷ ys) h = (
  all_apart y ys (λ k i at same. h (suc k) i at (y, contains_head y (take k ys), same)),
  apart_from ys (λ k i at r. h (suc k) i at (r.0, contains_tail y (take k ys) r.0 r.1, r.2)),
)

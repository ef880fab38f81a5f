-- Models in the order of their identifiers, and one that is put at its place.
use Rattle.std.proofs.Common.{◌≡◌, List, [], ◌∷◌, map, Bool, true, false, cond, refl, sym, ap, ◌∙◌, subst, Less, Equal, Greater}
use Rattle.std.specs.Ordering.{match_ordering, ordering_reverse}
use Rattle.std.specs.List.{AllByRecursion, filter}
use Rattle.std.specs.Map.{values_of}
use Rattle.std.specs.BTreeMap.{insert_entry}
use Rattle.std.proofs.lemmas.Cmp.{nat_list_cmp_total}
use Rattle.std.proofs.lemmas.Map.Keys.{sorted_head, sorted_tail}
use Rattle.std.proofs.lemmas.Map.Lookups.{exact_bytes}
use Rattle.dt_base.specs.names.Grammar.{Identifier, dtmi_text, id_cmp}
use Rattle.dtdl_terms.specs.Sets.{InOrder}
use Rattle.dtdl_terms.specs.declared.interface.Interface.{Interface}
use Rattle.model_life.proofs.resolution.ByKey.{C}
use Rattle.model_life.specs.Models.{Model, model_of, interfaces_of, by_id, with_model}

-- ---- what holds of all
pub all_weaker : {X : Type 0} (P Q : X → Type 0) → ((x : X) → P x → Q x) → (xs : List X) → AllByRecursion P xs → AllByRecursion Q xs
all_weaker P Q f [] all = tt
all_weaker P Q f (x ∷ xs) all = (f x all.0, all_weaker P Q f xs all.1)

pub all_mapped : {X Y : Type 0} (f : X → Y) (P : Y → Type 0) (xs : List X) → AllByRecursion (λ x. P (f x)) xs → AllByRecursion P (map f xs)
all_mapped f P [] all = tt
all_mapped f P (x ∷ xs) all = (all.0, all_mapped f P xs all.1)

pub all_unmapped : {X Y : Type 0} (f : X → Y) (P : Y → Type 0) (xs : List X) → AllByRecursion P (map f xs) → AllByRecursion (λ x. P (f x)) xs
all_unmapped f P [] all = tt
all_unmapped f P (x ∷ xs) all = (all.0, all_unmapped f P xs all.1)

pub all_filter : {X : Type 0} (P : X → Type 0) (t : X → Bool) (xs : List X) → AllByRecursion P xs → AllByRecursion P (filter t xs)
all_filter P t [] all = tt
all_filter P t (x ∷ xs) all =
    elim (t x) as (λ b. AllByRecursion P (cond b (x ∷ filter t xs) (filter t xs))) [
      | true ↦ (all.0, all_filter P t xs all.1)
      | false ↦ all_filter P t xs all.1
    ]

pub filter_none : {X : Type 0} (t : X → Bool) (xs : List X) → AllByRecursion (λ x. t x ≡ false) xs → filter t xs ≡ []
filter_none t [] all = refl
filter_none t (x ∷ xs) all = ap (λ b. cond b (x ∷ filter t xs) (filter t xs)) all.0 ∙ filter_none t xs all.1

-- ---- one model at its place
pub values-by_id : (ms : List Model) → values_of (by_id ms) ≡ ms
values-by_id [] = refl
values-by_id (m ∷ ms) = ap (λ ns. m ∷ ns) (values-by_id ms)

abbrev pub new_of : Interface → Model
new_of i = model_of i false

pub place : (i : Interface) (m : Model) (ms : List Model) → with_model i (m ∷ ms) ≡ match_ordering (id_cmp i.id m.interface.id) (new_of i ∷ m ∷ ms) (new_of i ∷ ms) (m ∷ with_model i ms)
place i m ms =
    elim (id_cmp i.id m.interface.id) as (λ o.
    values_of (match_ordering o ((i.id, new_of i) ∷ (m.interface.id, m) ∷ by_id ms) ((m.interface.id, new_of i) ∷ by_id ms) ((m.interface.id, m) ∷ insert_entry id_cmp (by_id ms) i.id (new_of i)))
    ≡ match_ordering o (new_of i ∷ m ∷ ms) (new_of i ∷ ms) (m ∷ with_model i ms)) [
      | Less ↦ ap (λ ns. new_of i ∷ m ∷ ns) (values-by_id ms)
      | Equal ↦ ap (λ ns. new_of i ∷ ns) (values-by_id ms)
      | Greater ↦ refl
    ]

-- What holds of all, and of the new one, holds of all with it.
pub all_with : (P : Model → Type 0) (i : Interface) (ms : List Model) → P (new_of i) → AllByRecursion P ms → AllByRecursion P (with_model i ms)
all_with P i [] new all = (new, tt)
all_with P i (m ∷ ms) new all =
    subst (AllByRecursion P) (sym (place i m ms))
    (elim (id_cmp i.id m.interface.id) as (λ o. AllByRecursion P (match_ordering o (new_of i ∷ m ∷ ms) (new_of i ∷ ms) (m ∷ with_model i ms))) [
      | Less ↦ (new, all)
      | Equal ↦ (new, all.1)
      | Greater ↦ (all.0, all_with P i ms new all.1)
    ])

-- ---- the order of identifiers
abbrev pub Before : Identifier → Model → Type 0
Before id m = id_cmp id m.interface.id ≡ Less

abbrev pub Ascend : List Model → Type 0
Ascend [] = Unit {0}
Ascend (m ∷ ms) = AllByRecursion (Before m.interface.id) ms × Ascend ms

pub ascend : (ms : List Model) → InOrder (interfaces_of ms) → Ascend ms
ascend [] sorted = tt
ascend (m ∷ ms) sorted =
    let later = sorted_head id_cmp m.interface.id (map (λ (i : Interface). i.id) (interfaces_of ms)) sorted in (
      all_unmapped (λ (n : Model). n.interface) (λ (i : Interface). id_cmp m.interface.id i.id ≡ Less) ms
          (all_unmapped (λ (i : Interface). i.id) (λ k. id_cmp m.interface.id k ≡ Less) (interfaces_of ms) later),
      ascend ms (sorted_tail id_cmp m.interface.id (map (λ (i : Interface). i.id) (interfaces_of ms)) sorted),
    )

pub before_all : (a : Identifier) (m : Model) (ms : List Model) → Before a m → AllByRecursion (Before m.interface.id) ms → AllByRecursion (Before a) ms
before_all a m ms h all = all_weaker (Before m.interface.id) (Before a) (λ n k. nat_list_cmp_total.trans (dtmi_text a) (dtmi_text m.interface.id) (dtmi_text n.interface.id) h k) ms all

pub same_text : (a b : Identifier) → id_cmp a b ≡ Equal → dtmi_text a ≡ dtmi_text b
same_text a b h = exact_bytes (dtmi_text a) (dtmi_text b) h

pub turned : (a b : Identifier) → id_cmp a b ≡ Greater → id_cmp b a ≡ Less
turned a b h = nat_list_cmp_total.antisymm (dtmi_text b) (dtmi_text a) ∙ ap ordering_reverse h

-- A new model, of those in order, is before all where it is before the first.
pub first_with : (i : Interface) (ms : List Model) → AllByRecursion (Before i.id) ms → with_model i ms ≡ new_of i ∷ ms
first_with i [] all = refl
first_with i (m ∷ ms) all = place i m ms ∙ ap (λ o. match_ordering o (new_of i ∷ m ∷ ms) (new_of i ∷ ms) (m ∷ with_model i ms)) all.0

pub ascend_with : (i : Interface) (ms : List Model) → Ascend ms → Ascend (with_model i ms)
ascend_with i [] up = (tt, tt)
ascend_with i (m ∷ ms) up =
    subst Ascend (sym (place i m ms))
    (elim (id_cmp i.id m.interface.id) as (λ o. id_cmp i.id m.interface.id ≡ o → Ascend (match_ordering o (new_of i ∷ m ∷ ms) (new_of i ∷ ms) (m ∷ with_model i ms))) [
      | Less ↦ λ e. ((e, before_all i.id m ms e up.0), up)
      | Equal ↦ λ e. (subst (λ t. AllByRecursion (λ (n : Model). C t (dtmi_text n.interface.id) ≡ Less) ms) (sym (same_text i.id m.interface.id e)) up.0, up.1)
      | Greater ↦ λ e. (all_with (Before m.interface.id) i ms (turned i.id m.interface.id e) up.0, ascend_with i ms up.1)
    ] refl)

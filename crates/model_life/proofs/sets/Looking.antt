-- What stands under an identifier in sets that change.
use Rattle.std.proofs.Common.{◌≡◌, ◌≢◌, List, [], ◌∷◌, ◌++◌, map, Bool, true, false, not, cond, ◌||◌, Option, Some, None, refl, sym, ap, ◌∙◌, subst, true≢false, is_eq}
use Rattle.std.specs.Prelude.{bytes_eq}
use Rattle.std.specs.List.{AllByRecursion, filter, list_any}
use Rattle.std.specs.List.Sorted.{IsStrictlySortedBy}
use Rattle.std.specs.Map.{lookup, remove_entry}
use Rattle.std.specs.BTreeMap.{is_at, insert_entry}
use Rattle.std.proofs.lemmas.Map.Entries.{lookup-filter-keys}
use Rattle.std.proofs.lemmas.List.Kept.{IsStrictlySortedBy-filter}
use Rattle.std.proofs.lemmas.Slice.Eq.{bytes_eq-Decides}
use Rattle.dt_base.specs.names.Grammar.{Identifier, dtmi_text, id_cmp, id_eq}
use Rattle.dtdl_terms.specs.Sets.{keyed, InOrder, interface_at, with_interface, without_interface}
use Rattle.dtdl_terms.specs.declared.interface.Interface.{Interface}
use Rattle.dtdl_terms.specs.declared.uploaded.Uploaded.{Uploaded}
use Rattle.dtdl_terms.proofs.Keyed.{ordered-keyed, insert-keyed, remove-keyed}
use Rattle.ordered_table.proofs.Kept.{sorted-insert, sorted-remove}
use Rattle.extend_resolve.specs.SetRules.{together}
use Rattle.model_life.proofs.resolution.ByKey.{C, same_spelling, alike, lookup-insert}
use Rattle.model_life.proofs.resolution.Changes.{ids_total, keys_keyed, left}
use Rattle.model_life.proofs.resolution.Families.{listed}
use Rattle.model_life.proofs.resolution.OneResolved.{one_ascending}
use Rattle.model_life.specs.sets.Changing.{with_uploads, is_one_of, without_interfaces, HaveTheSame, HaveDistinctIds}
use Rattle.model_life.proofs.sets.Apart.{unlike, text}

-- ---- equal identifiers
pub eq_tests : (a b : Identifier) → is_eq (id_cmp a b) ≡ id_eq a b
eq_tests a b =
    elim (is_eq (id_cmp a b)) as (λ t. is_eq (id_cmp a b) ≡ t → t ≡ id_eq a b) [
      | true ↦ λ e. sym ((bytes_eq-Decides (dtmi_text a) (dtmi_text b)).1 (same_spelling (dtmi_text a) (dtmi_text b) e))
      | false ↦ λ e.
          elim (id_eq a b) as (λ u. id_eq a b ≡ u → false ≡ u) [
            | true ↦ λ h.
                let same : dtmi_text a ≡ dtmi_text b = (bytes_eq-Decides (dtmi_text a) (dtmi_text b)).0 h in
                absurd (true≢false (sym (ap is_eq (ap (C (dtmi_text a)) (sym same) ∙ alike (dtmi_text a))) ∙ e))
            | false ↦ λ _. refl
          ] refl
    ] refl

pub at_text : (p q : Identifier) (set : List Interface) → dtmi_text p ≡ dtmi_text q → interface_at p set ≡ interface_at q set
at_text p q set same = ap (λ t. lookup (λ (k : Identifier). is_eq (C t (dtmi_text k))) (keyed set)) same

pub one_text_of : (ids : List Identifier) (p q : Identifier) → dtmi_text p ≡ dtmi_text q → is_one_of ids p ≡ is_one_of ids q
one_text_of ids p q same = ap (λ t. list_any (λ (k : Identifier). bytes_eq t (dtmi_text k)) ids) same

-- ---- one more interface
pub at_with : (i : Interface) (set : List Interface) → interface_at i.id set ≡ None → (p : Identifier) → interface_at p (with_interface i set) ≡ cond (is_eq (id_cmp p i.id)) (Some i) (interface_at p set)
at_with i set absent p = ap (lookup (is_at (id_cmp p))) (sym (insert-keyed i set absent)) ∙ lookup-insert dtmi_text (dtmi_text p) i.id i (keyed set)

pub ordered_with : (i : Interface) (set : List Interface) → interface_at i.id set ≡ None → InOrder set → InOrder (with_interface i set)
ordered_with i set absent sorted =
    ordered-keyed (insert_entry id_cmp (keyed set) i.id i) (with_interface i set) (insert-keyed i set absent)
    (sorted-insert ids_total i.id i (keyed set) (subst (IsStrictlySortedBy id_cmp) (keys_keyed set) sorted))

-- ---- sets one behind another
abbrev pub or_else : Option Interface → Option Interface → Option Interface
or_else None o = o
or_else (Some i) o = Some i

pub at_append : (p : Identifier) (xs ys : List Interface) → interface_at p (xs ++ ys) ≡ or_else (interface_at p xs) (interface_at p ys)
at_append p [] ys = refl
at_append p (x ∷ xs) ys =
    elim (is_eq (id_cmp p x.id)) as (λ b. cond b (Some x) (interface_at p (xs ++ ys)) ≡ or_else (cond b (Some x) (interface_at p xs)) (interface_at p ys)) [
      | true ↦ refl
      | false ↦ at_append p xs ys
    ]

or_none : (o : Option Interface) → or_else o None ≡ o
or_none None = refl
or_none (Some i) = refl

or_swap : (b : Bool) (x : Interface) (o r : Option Interface) → (b ≡ true → o ≡ None) → or_else o (cond b (Some x) r) ≡ or_else (cond b (Some x) o) r
or_swap true x o r h = ap (λ p. or_else p (Some x)) (h refl)
or_swap false x o r h = refl

-- ---- uploads that join
abbrev interface_of : Uploaded → Interface
interface_of u = u.interface

abbrev pub AreAbsent : List Interface → List Uploaded → Type 0
AreAbsent set us = AllByRecursion (λ u. interface_at u.interface.id set ≡ None) us

pub absent_more : (i : Interface) (set : List Interface) (us : List Uploaded) → interface_at i.id set ≡ None → AreAbsent set us → AllByRecursion (λ t. text i ≢ t) (map text (map interface_of us)) → AreAbsent (with_interface i set) us
absent_more i set [] absent all apart = tt
absent_more i set (u ∷ us) absent all apart = (
  at_with i set absent u.interface.id ∙ ap (λ b. cond b (Some i) (interface_at u.interface.id set)) (unlike u.interface.id i.id (λ e. apart.0 (sym e))) ∙ all.0,
  absent_more i set us absent all.1 apart.1,
)

pub uploads_ordered : (us : List Uploaded) (set : List Interface) → InOrder set → AreAbsent set us → HaveDistinctIds (map interface_of us) → InOrder (with_uploads us set)
uploads_ordered [] set sorted absent apart = sorted
uploads_ordered (u ∷ us) set sorted absent apart =
    uploads_ordered us (with_interface u.interface set) (ordered_with u.interface set absent.0 sorted) (absent_more u.interface set us absent.0 absent.1 apart.0) apart.1

pub uploads_same : (us : List Uploaded) (set : List Interface) → AreAbsent set us → HaveDistinctIds (map interface_of us) → HaveTheSame (together set us) (with_uploads us set)
uploads_same [] set absent apart p = at_append p set [] ∙ or_none (interface_at p set)
uploads_same (u ∷ us) set absent apart p =
    let i : Interface = u.interface in
    let more : List Interface = map interface_of us in
    at_append p set (i ∷ more)
    ∙ or_swap (is_eq (id_cmp p i.id)) i (interface_at p set) (interface_at p more) (λ e. at_text p i.id set (same_spelling (dtmi_text p) (dtmi_text i.id) e) ∙ absent.0)
    ∙ ap (λ o. or_else o (interface_at p more)) (sym (at_with i set absent.0 p))
    ∙ sym (at_append p (with_interface i set) more)
    ∙ uploads_same us (with_interface i set) (absent_more i set us absent.0 absent.1 apart.0) apart.1 p

-- ---- interfaces that go
module _ (keep : Identifier → Bool) where
  keyed_filter : (is : List Interface) → keyed (filter (λ i. keep i.id) is) ≡ filter (λ e. keep e.0) (keyed is)
  keyed_filter [] = refl
  keyed_filter (j ∷ js) =
      elim (keep j.id) as (λ b. keyed (cond b (j ∷ filter (λ (i : Interface). keep i.id) js) (filter (λ (i : Interface). keep i.id) js))
      ≡ cond b ((j.id, j) ∷ filter (λ (e : Identifier × Interface). keep e.0) (keyed js)) (filter (λ (e : Identifier × Interface). keep e.0) (keyed js))) [
        | true ↦ ap (λ es. (j.id, j) ∷ es) (keyed_filter js)
        | false ↦ keyed_filter js
      ]

  ids_filter : (is : List Interface) → map (λ i. i.id) (filter (λ i. keep i.id) is) ≡ filter keep (map (λ i. i.id) is)
  ids_filter [] = refl
  ids_filter (j ∷ js) =
      elim (keep j.id) as (λ b. map (λ (i : Interface). i.id) (cond b (j ∷ filter (λ (i : Interface). keep i.id) js) (filter (λ (i : Interface). keep i.id) js))
      ≡ cond b (j.id ∷ filter keep (map (λ (i : Interface). i.id) js)) (filter keep (map (λ (i : Interface). i.id) js))) [
        | true ↦ ap (λ ids. j.id ∷ ids) (ids_filter js)
        | false ↦ ids_filter js
      ]

unless : (b : Bool) (o : Option Interface) → cond (not b) o None ≡ cond b None o
unless true o = refl
unless false o = refl

pub at_without : (ids : List Identifier) (set : List Interface) (p : Identifier) → interface_at p (without_interfaces ids set) ≡ cond (is_one_of ids p) None (interface_at p set)
at_without ids set p =
    ap (lookup (is_at (id_cmp p))) (keyed_filter (λ id. not (is_one_of ids id)) set)
    ∙ lookup-filter-keys (is_at (id_cmp p)) (λ id. not (is_one_of ids id)) (not (is_one_of ids p)) (λ k e. ap not (sym (one_text_of ids p k (same_spelling (dtmi_text p) (dtmi_text k) e)))) (keyed set)
    ∙ unless (is_one_of ids p) (interface_at p set)

pub ordered_without : (ids : List Identifier) (set : List Interface) → InOrder set → InOrder (without_interfaces ids set)
ordered_without ids set sorted =
    subst (IsStrictlySortedBy id_cmp) (sym (ids_filter (λ id. not (is_one_of ids id)) set)) (IsStrictlySortedBy-filter id_cmp (λ id. not (is_one_of ids id)) (map (λ (i : Interface). i.id) set) sorted)

-- one that goes
or_false : (b : Bool) → (b || false) ≡ b
or_false true = refl
or_false false = refl

pub one_is : (id p : Identifier) → is_one_of (id ∷ []) p ≡ id_eq p id
one_is id p = or_false (id_eq p id)

pub turned : (a b : Identifier) → id_eq a b ≡ id_eq b a
turned a b =
    elim (id_eq a b) as (λ t. id_eq a b ≡ t → t ≡ id_eq b a) [
      | true ↦ λ e. sym ((bytes_eq-Decides (dtmi_text b) (dtmi_text a)).1 (sym ((bytes_eq-Decides (dtmi_text a) (dtmi_text b)).0 e)))
      | false ↦ λ e.
          elim (id_eq b a) as (λ u. id_eq b a ≡ u → false ≡ u) [
            | true ↦ λ h. absurd (true≢false (sym ((bytes_eq-Decides (dtmi_text a) (dtmi_text b)).1 (sym ((bytes_eq-Decides (dtmi_text b) (dtmi_text a)).0 h))) ∙ e))
            | false ↦ λ _. refl
          ] refl
    ] refl

pub same_without_one : (id : Identifier) (set : List Interface) → InOrder set → HaveTheSame (without_interfaces (id ∷ []) set) (without_interface id set)
same_without_one id set sorted p =
    at_without (id ∷ []) set p
    ∙ ap (λ b. cond b None (interface_at p set)) (one_is id p ∙ turned p id ∙ sym (eq_tests id p))
    ∙ sym (left id p set sorted)

pub ordered_without_one : (id : Identifier) (set : List Interface) → InOrder set → InOrder (without_interface id set)
ordered_without_one id set sorted =
    ordered-keyed (remove_entry (is_at (id_cmp id)) (keyed set)) (without_interface id set) (remove-keyed (is_at (id_cmp id)) set)
    (sorted-remove ids_total (is_at (id_cmp id)) (keyed set) (subst (IsStrictlySortedBy id_cmp) (keys_keyed set) sorted))

-- ---- sets with the same look-ups
pub same_set : (a b : List Interface) → InOrder a → InOrder b → HaveTheSame a b → a ≡ b
same_set a b first second same =
    one_ascending (λ (i : Interface). i.id) dtmi_text a b first second
    (λ i h. (listed b second i).1 (sym (same i.id) ∙ (listed a first i).0 h))
    (λ i h. (listed a first i).1 (same i.id ∙ (listed b second i).0 h))

-- Entries of tables that come and go.
use Rattle.std.proofs.Common.{◌≡◌, ℕ, zero, suc, ◌<◌, ◌+◌, ◌≤◌, List, [], ◌∷◌, map, drop, Bool, true, false, not, cond, ◌||◌, length, slice_index_or, Option, Some, None, refl, sym, ap, ◌∙◌, subst, true≢false, Less, Equal, Greater, is_eq, arith}
use Rattle.std.specs.Prelude.{bytes_eq}
use Rattle.std.specs.Ordering.{match_ordering}
use Rattle.std.specs.List.{AllByRecursion, filter, list_any}
use Rattle.std.specs.List.Sorted.{IsStrictlySortedBy}
use Rattle.std.specs.Map.{lookup, remove_entry, keys_of}
use Rattle.std.specs.BTreeMap.{is_at, insert_entry}
use Rattle.std.proofs.lemmas.Map.{none_passes_from_lookup}
use Rattle.std.proofs.lemmas.Map.Lookups.{exact_bytes}
use Rattle.std.proofs.lemmas.Slice.Eq.{bytes_eq-Decides}
use Rattle.dt_base.specs.names.Grammar.{Identifier, dtmi_text, id_cmp, id_eq}
use Rattle.dtdl_terms.specs.Sets.{interface_at}
use Rattle.dtdl_terms.specs.declared.interface.Interface.{Interface}
use Rattle.dtdl_terms.specs.declared.resolved.Resolved.{Resolved}
use Rattle.model_life.specs.resolution.Resolving.{IsResolved, EntryOf, entry_at}
use Rattle.resolved_table.specs.Machinery.Without.{is_removed, without}
use Rattle.model_life.proofs.resolution.ByKey.{C, same_spelling, alike, lookup-insert}
use Rattle.model_life.proofs.resolution.Changes.{all_map}

abbrev Entries : Type 0
Entries = List (Identifier × Resolved)

-- ---- lists
drop_suc : {X : Type 0} (xs : List X) (k : ℕ) (x : X) → k < length xs → x ≡ slice_index_or xs k x → drop k xs ≡ x ∷ drop (suc k) xs
drop_suc [] k x low is = absurd (omega (arith, low))
drop_suc (y ∷ ys) zero x low is = ap (λ z. z ∷ ys) (sym is)
drop_suc (y ∷ ys) (suc k) x low is = drop_suc ys k x (omega (arith, low)) is

pub drop_next : {X : Type 0} (xs : List X) (k : ℕ) (x : X) → k < length xs → x ≡ slice_index_or xs k x → drop k xs ≡ x ∷ drop (k + 1) xs
drop_next xs k x low is = let next : suc k ≡ k + 1 = omega arith in drop_suc xs k x low is ∙ ap (λ n. x ∷ drop n xs) next

pub drop_all : {X : Type 0} (xs : List X) (k : ℕ) → length xs ≤ k → drop k xs ≡ []
drop_all [] zero long = refl
drop_all [] (suc k) long = refl
drop_all (x ∷ xs) zero long = absurd (omega (arith, long))
drop_all (x ∷ xs) (suc k) long = drop_all xs k (omega (arith, long))

same_filter : {X : Type 0} (p q : X → Bool) (xs : List X) → AllByRecursion (λ x. p x ≡ q x) xs → filter p xs ≡ filter q xs
same_filter p q [] all = refl
same_filter p q (x ∷ xs) all = ap (λ b. cond b (x ∷ filter p xs) (filter p xs)) all.0 ∙ ap (λ ys. cond (q x) (x ∷ ys) ys) (same_filter p q xs all.1)

filter_every : {X : Type 0} (xs : List X) → filter (λ _. true) xs ≡ xs
filter_every [] = refl
filter_every (x ∷ xs) = ap (λ ys. x ∷ ys) (filter_every xs)

any_at : {X : Type 0} (p : X → Bool) (xs : List X) (x : X) (k : ℕ) → k < length xs → x ≡ slice_index_or xs k x → p x ≡ true → list_any p xs ≡ true
any_at p [] x k low is h = absurd (omega (arith, low))
any_at p (y ∷ ys) x zero low is h = ap (λ b. b || list_any p ys) (ap p (sym is) ∙ h)
any_at p (y ∷ ys) x (suc k) low is h = elim (p y) as (λ b. (b || list_any p ys) ≡ true) [ true ↦ refl | false ↦ any_at p ys x k (omega (arith, low)) is h ]

-- ---- without some entries
pub without_none : (es : Entries) → without [] es ≡ es
without_none es = filter_every es

step_head : (b c : Bool) (e : Identifier × Resolved) (xs ys zs : Entries) → (b ≡ true → xs ≡ zs) → (b ≡ false → xs ≡ ys) → cond (not (b || c)) (e ∷ xs) xs ≡ cond b zs (cond (not c) (e ∷ ys) ys)
step_head true c e xs ys zs h g = h refl
step_head false c e xs ys zs h g = ap (λ vs. cond (not c) (e ∷ vs) vs) (g refl)

filter_cond : {X : Type 0} (p : X → Bool) (b : Bool) (xs : List X) (y : X) (ys : List X) → filter p (cond b xs (y ∷ ys)) ≡ cond b (filter p xs) (cond (p y) (y ∷ filter p ys) (filter p ys))
filter_cond p true xs y ys = refl
filter_cond p false xs y ys = refl

-- taking out the one entry of an identifier leaves none of it
pub without_one : (id : Identifier) (ids : List Identifier) (es : Entries) → IsStrictlySortedBy id_cmp (keys_of es) → without ids (remove_entry (is_at (id_cmp id)) es) ≡ without (id ∷ ids) es
unfolding IsStrictlySortedBy
without_one id ids [] sorted = refl
without_one id ids (e ∷ es) sorted =
    let rest : Entries = without (id ∷ ids) es in
    let later : is_eq (id_cmp id e.0) ≡ true → rest ≡ without ids es =
    λ h. same_filter (λ f. not (is_removed (id ∷ ids) f.0)) (λ f. not (is_removed ids f.0)) es
    (apart_later id e.0 (same_spelling (dtmi_text id) (dtmi_text e.0) h) ids es sorted.0) in
    filter_cond (λ f. not (is_removed ids f.0)) (is_eq (id_cmp id e.0)) es e (remove_entry (is_at (id_cmp id)) es)
    ∙ sym (step_head (is_eq (id_cmp id e.0)) (is_removed ids e.0) e rest (without ids (remove_entry (is_at (id_cmp id)) es)) (without ids es) later (λ _. sym (without_one id ids es sorted.1)))
  where
    apart_later : (id key : Identifier) → dtmi_text id ≡ dtmi_text key → (ids : List Identifier) (es : Entries) → AllByRecursion (λ k. id_cmp key k ≡ Less) (keys_of es)
        → AllByRecursion (λ f. not (is_removed (id ∷ ids) f.0) ≡ not (is_removed ids f.0)) es
    apart_later id key same ids [] all = tt
    apart_later id key same ids (f ∷ fs) all = (
      ap (λ b. not (b || is_removed ids f.0)) (ap is_eq (ap (λ t. C t (dtmi_text f.0)) same ∙ all.0)),
      apart_later id key same ids fs all.1,
    )

-- what is put under one of the identifiers does not show
pub without_put : (ids : List Identifier) (id : Identifier) (r : Resolved) → is_removed ids id ≡ true → (es : Entries) → without ids (insert_entry id_cmp es id r) ≡ without ids es
without_put ids id r h [] = ap (λ b. cond (not b) ((id, r) ∷ []) []) h
without_put ids id r h (e ∷ es) =
    elim (id_cmp id e.0) as (λ o. id_cmp id e.0 ≡ o → without ids (match_ordering o ((id, r) ∷ e ∷ es) ((e.0, r) ∷ es) (e ∷ insert_entry id_cmp es id r)) ≡ without ids (e ∷ es)) [
      | Less ↦ λ _. ap (λ b. cond (not b) ((id, r) ∷ without ids (e ∷ es)) (without ids (e ∷ es))) h
      | Equal ↦ λ o.
          let same : is_removed ids e.0 ≡ true = sym (ap (λ t. list_any (λ (j : Identifier). is_eq (C (dtmi_text j) t)) ids) (exact_bytes (dtmi_text id) (dtmi_text e.0) o)) ∙ h in
          ap (λ b. cond (not b) ((e.0, r) ∷ without ids es) (without ids es)) same ∙ sym (ap (λ b. cond (not b) (e ∷ without ids es) (without ids es)) same)
      | Greater ↦ λ _. ap (λ xs. cond (not (is_removed ids e.0)) (e ∷ xs) xs) (without_put ids id r h es)
    ] refl

-- nothing goes where nothing is there
pub without_absent : (ids : List Identifier) (es : Entries) → AllByRecursion (λ id. entry_at id es ≡ None) ids → without ids es ≡ es
without_absent [] es all = without_none es
without_absent (id ∷ ids) es all =
    same_filter (λ e. not (is_removed (id ∷ ids) e.0)) (λ e. not (is_removed ids e.0)) es
    (all_map (λ e. is_eq (id_cmp id e.0) ≡ false) (λ e. not (is_removed (id ∷ ids) e.0) ≡ not (is_removed ids e.0)) es (λ e h. ap (λ b. not (b || is_removed ids e.0)) h) (none_passes_from_lookup (is_at (id_cmp id)) es all.0))
    ∙ without_absent ids es all.1

pub is_of_at : (ids : List Identifier) (id : Identifier) (k : ℕ) → k < length ids → id ≡ slice_index_or ids k id → is_removed ids id ≡ true
is_of_at ids id k low is = any_at (λ j. is_eq (id_cmp j id)) ids id k low is (ap is_eq (alike (dtmi_text id)))

-- ---- one more entry
unlike : (q id : Identifier) → is_eq (id_cmp q id) ≡ false → id_eq q id ≡ false
unlike q id h =
    elim (bytes_eq (dtmi_text q) (dtmi_text id)) as (λ b. bytes_eq (dtmi_text q) (dtmi_text id) ≡ b → b ≡ false) [
      | true ↦ λ e. absurd (true≢false (sym (ap is_eq (ap (λ t. C t (dtmi_text id)) ((bytes_eq-Decides (dtmi_text q) (dtmi_text id)).0 e) ∙ alike (dtmi_text id))) ∙ h))
      | false ↦ λ _. refl
    ] refl

entry : (set : List Interface) (o p : Option Interface) (x y : Option Resolved) → o ≡ p → x ≡ y → EntryOf set p y → EntryOf set o x
entry set o p x y e f h = subst (λ z. EntryOf set z x) (sym e) (subst (λ z. EntryOf set p z) (sym f) h)

pub one_more : (set : List Interface) (id : Identifier) (i : Interface) (r : Resolved) (old new : Entries) (rest : List Identifier) → interface_at id set ≡ Some i → IsResolved set i r → new ≡ insert_entry id_cmp old id r
    → ((q : Identifier) → list_any (id_eq q) (id ∷ rest) ≡ false → EntryOf set (interface_at q set) (entry_at q old))
    → (q : Identifier) → list_any (id_eq q) rest ≡ false → EntryOf set (interface_at q set) (entry_at q new)
one_more set id i r old new rest found resolved is so_far q none =
    let put : entry_at q new ≡ cond (is_eq (id_cmp q id)) (Some r) (entry_at q old) = ap (entry_at q) is ∙ lookup-insert dtmi_text (dtmi_text q) id r old in
    elim (is_eq (id_cmp q id)) as (λ b. is_eq (id_cmp q id) ≡ b → entry_at q new ≡ cond b (Some r) (entry_at q old) → EntryOf set (interface_at q set) (entry_at q new)) [
      | true ↦ λ e p.
          let same : interface_at q set ≡ Some i = ap (λ t. lookup (λ (k : Identifier). is_eq (C t (dtmi_text k))) (map (λ (j : Interface). (j.id, j)) set)) (same_spelling (dtmi_text q) (dtmi_text id) e) ∙ found in
          entry set (interface_at q set) (Some i) (entry_at q new) (Some r) same p resolved
      | false ↦ λ e p.
          entry set (interface_at q set) (interface_at q set) (entry_at q new) (entry_at q old) refl p
          (so_far q (ap (λ b. b || list_any (id_eq q) rest) (unlike q id e) ∙ none))
    ] refl put

pub all_at : {X : Type 0} (P : X → Type 0) (xs : List X) (x : X) (k : ℕ) → AllByRecursion P xs → k < length xs → x ≡ slice_index_or xs k x → P x
all_at P [] x k all low is = absurd (omega (arith, low))
all_at P (y ∷ ys) x zero all low is = subst P (sym is) all.0
all_at P (y ∷ ys) x (suc k) all low is = all_at P ys x k all.1 (omega (arith, low)) is

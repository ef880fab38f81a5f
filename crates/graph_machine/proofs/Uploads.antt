-- Models that uploads bring.
use Rattle.std.proofs.Common.{◌≡◌, ℕ, List, [], ◌∷◌, ◌++◌, map, Bool, true, false, cond, Some, refl, sym, ap, ◌∙◌, Ordering, Less, Equal, Greater, is_eq}
use Rattle.std.specs.Ordering.{match_ordering}
use Rattle.std.specs.List.{AllByRecursion, filter}
use Rattle.std.specs.Option.{is_none}
use Rattle.std.specs.Map.{lookup, keys_of}
use Rattle.std.specs.BTreeMap.{insert_entry}
use Rattle.dt_base.specs.names.Grammar.{Identifier, dtmi_text, id_cmp}
use Rattle.dtdl_terms.specs.declared.interface.Interface.{Interface}
use Rattle.dtdl_terms.specs.declared.uploaded.Uploaded.{Uploaded}
use Rattle.model_life.proofs.resolution.ByKey.{C, alike}
use Rattle.model_life.specs.Models.{Model, by_id, model_at, with_model, with_new_models}
use Rattle.model_life.specs.Refusals.{AreNew}
use Rattle.graph_steps.specs.ModelAsks.{mark_value}
use Rattle.graph_machine.specs.Machinery.Marks.{mark_json, unmarked, id_text_of}
use Rattle.graph_machine.proofs.Ascending.{all_weaker, filter_none, all_filter, place, all_with, new_of, Before, Ascend, before_all, same_text, first_with, ascend_with}

-- ---- all of them
pub with_one_more : (us : List Uploaded) (u : Uploaded) (ms : List Model) → with_new_models (us ++ u ∷ []) ms ≡ with_model u.interface (with_new_models us ms)
with_one_more [] u ms = refl
with_one_more (v ∷ us) u ms = with_one_more us u (with_model v.interface ms)

pub all_with_uploads : (P : Model → Type 0) (us : List Uploaded) (ms : List Model) → AllByRecursion (λ u. P (new_of u.interface)) us → AllByRecursion P ms → AllByRecursion P (with_new_models us ms)
all_with_uploads P [] ms new all = all
all_with_uploads P (u ∷ us) ms new all = all_with_uploads P us (with_model u.interface ms) new.1 (all_with P u.interface ms new.0 all)

each_new : (P : Model → Type 0) → ((i : Interface) → P (new_of i)) → (us : List Uploaded) → AllByRecursion (λ u. P (new_of u.interface)) us
each_new P f [] = tt
each_new P f (u ∷ us) = (f u.interface, each_new P f us)

-- ---- none of them is marked
marks_of : (ms : List Model) → AllByRecursion (λ m. m.decommissioned ≡ false) ms → map mark_value ms ≡ map (λ t. mark_json t false) (map id_text_of ms)
marks_of [] all = refl
marks_of (m ∷ ms) all = ap (λ b. mark_json (id_text_of m) b ∷ map mark_value ms) all.0 ∙ ap (λ vs. mark_json (id_text_of m) false ∷ vs) (marks_of ms all.1)

by_texts : (ids : List Identifier) → map unmarked ids ≡ map (λ t. mark_json t false) (map dtmi_text ids)
by_texts [] = refl
by_texts (id ∷ ids) = ap (λ vs. unmarked id ∷ vs) (by_texts ids)

pub marks_of_uploads : (us : List Uploaded) (ids : List Identifier) → map dtmi_text ids ≡ map id_text_of (with_new_models us []) → map unmarked ids ≡ map mark_value (with_new_models us [])
marks_of_uploads us ids same =
    by_texts ids
    ∙ ap (map (λ t. mark_json t false)) same
    ∙ sym (marks_of (with_new_models us []) (all_with_uploads (λ (m : Model). m.decommissioned ≡ false) us [] (each_new (λ (m : Model). m.decommissioned ≡ false) (λ i. refl) us) tt))

-- ---- their identifiers in order
abbrev Ids : Type 0
Ids = List (Identifier × Unit {0})

abbrev texts : Ids → List (List ℕ)
texts es = map dtmi_text (keys_of es)

first_same : {X : Type 0} (x y : X) (xs ys : List X) → x ∷ xs ≡ y ∷ ys → (x ≡ y) × (xs ≡ ys)
first_same x y xs ys h = (cc, cc)

pub next_id : (es : Ids) (ms : List Model) (i : Interface) → texts es ≡ map id_text_of ms → texts (insert_entry id_cmp es i.id tt) ≡ map id_text_of (with_model i ms)
next_id [] [] i same = refl
next_id [] (m ∷ ms) i same = absurd cc
next_id (e ∷ es) [] i same = absurd cc
next_id (e ∷ es) (m ∷ ms) i same =
    let parts = first_same (dtmi_text e.0) (id_text_of m) (texts es) (map id_text_of ms) same in
    let later : texts (insert_entry id_cmp es i.id tt) ≡ map id_text_of (with_model i ms) = next_id es ms i parts.1 in
    ap (λ t. texts (match_ordering (C (dtmi_text i.id) t) ((i.id, tt) ∷ e ∷ es) ((e.0, tt) ∷ es) (e ∷ insert_entry id_cmp es i.id tt))) parts.0
    ∙ (elim (id_cmp i.id m.interface.id) as (λ o. id_cmp i.id m.interface.id ≡ o
    → texts (match_ordering o ((i.id, tt) ∷ e ∷ es) ((e.0, tt) ∷ es) (e ∷ insert_entry id_cmp es i.id tt)) ≡ map id_text_of (match_ordering o (new_of i ∷ m ∷ ms) (new_of i ∷ ms) (m ∷ with_model i ms))) [
      | Less ↦ λ o. ap (λ ts. dtmi_text i.id ∷ ts) same
      | Equal ↦ λ o. ap (λ t. t ∷ texts es) (parts.0 ∙ sym (same_text i.id m.interface.id o)) ∙ ap (λ ts. dtmi_text i.id ∷ ts) parts.1
      | Greater ↦ λ o. ap (λ t. t ∷ texts (insert_entry id_cmp es i.id tt)) parts.0 ∙ ap (λ ts. id_text_of m ∷ ts) later
    ] refl)
    ∙ sym (ap (map id_text_of) (place i m ms))

-- ---- those that were not there
module _ (old : List Model) where
  abbrev pub is_new : Model → Bool
  is_new m = is_none (model_at m.interface.id old)

new_text : (old : List Model) (a b : Identifier) → dtmi_text a ≡ dtmi_text b → is_none (model_at a old) ≡ is_none (model_at b old)
new_text old a b same = ap (λ t. is_none (lookup (λ (k : Identifier). is_eq (C t (dtmi_text k))) (by_id old))) same

-- Of those that come to some, the new ones are what they bring to the new ones of these.
keeps_one : (old : List Model) (i : Interface) (ms : List Model) → is_new old (new_of i) ≡ true → Ascend ms → filter (is_new old) (with_model i ms) ≡ with_model i (filter (is_new old) ms)
keeps_one old i [] new up = ap (λ b. cond b (new_of i ∷ []) []) new
keeps_one old i (m ∷ ms) new up =
    let later = keeps_one old i ms new up.1 in
    let t = is_new old in
    ap (filter t) (place i m ms)
    ∙ (elim (id_cmp i.id m.interface.id) as (λ o. id_cmp i.id m.interface.id ≡ o
    → filter t (match_ordering o (new_of i ∷ m ∷ ms) (new_of i ∷ ms) (m ∷ with_model i ms)) ≡ with_model i (filter t (m ∷ ms))) [
      | Less ↦ λ o. ap (λ b. cond b (new_of i ∷ filter t (m ∷ ms)) (filter t (m ∷ ms))) new
          ∙ sym (first_with i (filter t (m ∷ ms)) (all_filter (Before i.id) t (m ∷ ms) (o, before_all i.id m ms o up.0)))
      | Equal ↦ λ o.
          let here : t m ≡ true = sym (new_text old i.id m.interface.id (same_text i.id m.interface.id o)) ∙ new in
          ap (λ b. cond b (new_of i ∷ filter t ms) (filter t ms)) new
          ∙ sym (ap (λ (r : Ordering). match_ordering r (new_of i ∷ m ∷ filter t ms) (new_of i ∷ filter t ms) (m ∷ with_model i (filter t ms))) o)
          ∙ sym (place i m (filter t ms))
          ∙ sym (ap (λ b. with_model i (cond b (m ∷ filter t ms) (filter t ms))) here)
      | Greater ↦ λ o.
          elim (t m) as (λ b. cond b (m ∷ filter t (with_model i ms)) (filter t (with_model i ms)) ≡ with_model i (cond b (m ∷ filter t ms) (filter t ms))) [
            | true ↦ ap (λ ns. m ∷ ns) later
                ∙ sym (ap (λ (r : Ordering). match_ordering r (new_of i ∷ m ∷ filter t ms) (new_of i ∷ filter t ms) (m ∷ with_model i (filter t ms))) o)
                ∙ sym (place i m (filter t ms))
            | false ↦ later
          ]
    ] refl)

keeps_all : (old : List Model) (us : List Uploaded) (ms : List Model) → AreNew old us → Ascend ms → filter (is_new old) (with_new_models us ms) ≡ with_new_models us (filter (is_new old) ms)
keeps_all old [] ms new up = refl
keeps_all old (u ∷ us) ms new up =
    keeps_all old us (with_model u.interface ms) new.1 (ascend_with u.interface ms up)
    ∙ ap (with_new_models us) (keeps_one old u.interface ms (ap is_none new.0) up)

-- No model that is there is new.
pub known : (ms : List Model) → AllByRecursion (λ m. is_new ms m ≡ false) ms
known [] = tt
known (m ∷ ms) = (
  ap (λ o. is_none (cond (is_eq o) (Some m) (model_at m.interface.id ms))) (alike (dtmi_text m.interface.id)),
  all_weaker (λ (n : Model). is_new ms n ≡ false) (λ (n : Model). is_new (m ∷ ms) n ≡ false) further ms (known ms),
)
  where
    further : (n : Model) → is_new ms n ≡ false → is_new (m ∷ ms) n ≡ false
    further n h =
        elim (is_eq (id_cmp n.interface.id m.interface.id)) as (λ b. is_none (cond b (Some m) (model_at n.interface.id ms)) ≡ false) [
          | true ↦ refl
          | false ↦ h
        ]

pub new_ones : (old : List Model) (us : List Uploaded) → AreNew old us → Ascend old → filter (is_new old) (with_new_models us old) ≡ with_new_models us []
new_ones old us new up = keeps_all old us old new up ∙ ap (with_new_models us) (filter_none (is_new old) old (known old))

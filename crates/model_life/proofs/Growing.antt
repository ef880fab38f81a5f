-- Sets that grow with their records and users, and that are as before where they could not.
use Rattle.std.proofs.Common.{◌≡◌, ℕ, ◌⊎◌, inl, inr, List, [], ◌∷◌, map, Bool, true, false, not, cond, ◌||◌, Option, Some, None, refl, sym, ap, ◌∙◌, subst, true≢false, Less, Equal, Greater, is_eq}
use Rattle.std.specs.Prelude.{slice_get, Contains, IsSome}
use Rattle.std.specs.Option.{IsSomeAnd}
use Rattle.std.specs.Ordering.{match_ordering}
use Rattle.std.specs.List.{AllByRecursion, list_any}
use Rattle.std.specs.Map.{lookup, values_of}
use Rattle.std.specs.BTreeMap.{insert_entry}
use Rattle.std.proofs.lemmas.Option.{none-some}
use Rattle.std.proofs.lemmas.Slice.Eq.{bytes_eq-Decides}
use Rattle.std.proofs.lemmas.Bool.{or_cases}
use Rattle.dt_base.specs.names.Grammar.{Identifier, dtmi_text, id_cmp, id_eq}
use Rattle.dtdl_terms.specs.Sets.{keyed, InOrder, interface_at, with_interface}
use Rattle.dtdl_terms.specs.Terms.{KindTerm, telemetry, property, command, relationship, component}
use Rattle.dtdl_terms.specs.TermViews.{kind_term}
use Rattle.dtdl_terms.specs.declared.content.Content.{Content}
use Rattle.dtdl_terms.specs.declared.interface.Interface.{Interface}
use Rattle.dtdl_terms.specs.declared.uploaded.Uploaded.{Uploaded}
use Rattle.dtdl_terms.proofs.Keyed.{values-keyed}
use Rattle.extend_resolve.proofs.Members.{all_at, mapped_at, unmapped_at}
use Rattle.extend_resolve.proofs.Within.{placed_from_any}
use Rattle.model_life.specs.resolution.Resolving.{LacksNone}
use Rattle.model_life.specs.resolution.Machinery.Families.{IsThere}
use Rattle.model_life.proofs.resolution.ByKey.{C}
use Rattle.model_life.proofs.resolution.Families.{listed, spelled}
use Rattle.model_life.specs.sets.Changing.{with_uploads, is_one_of, without_interfaces, HaveDistinctIds}
use Rattle.model_life.proofs.sets.Apart.{there_apart, contains_head, contains_tail}
use Rattle.model_life.proofs.sets.Looking.{AreAbsent, or_else, at_append, at_text, at_without, ordered_without, uploads_same, same_set}
use Rattle.model_life.specs.Models.{Model, model_of, by_id, with_model, with_new_models, without_models, is_component, uses}
use Rattle.model_life.specs.Machinery.Keeping.{record_at, is_marked, record_mark_at, models_of, fresh_record, IsRecord, RecordOf, HaveTexts, Users, UsersAreWithin, user_at, use_of, RecordsFit}
use Rattle.model_life.specs.declared.records.Record.{Record}
use Rattle.model_life.proofs.Seen.{Records, seen}

abbrev interface_of : Uploaded → Interface
interface_of u = u.interface

abbrev id_of : Uploaded → Identifier
id_of u = u.interface.id

-- the records are those of the interfaces
abbrev pub AreRecords : List Interface → Records → Type 0
AreRecords set es = (id : Identifier) → RecordOf (interface_at id set) (record_at id es)

-- ---- identifiers of uploads
pub absent_one : (us : List Uploaded) (set : List Interface) → AreAbsent set us → (q : Identifier) → is_one_of (map id_of us) q ≡ true → interface_at q set ≡ None
absent_one [] set absent q h = absurd (true≢false (sym h))
absent_one (u ∷ us) set absent q h =
    elim (id_eq q u.interface.id) as (λ b. id_eq q u.interface.id ≡ b → (b || is_one_of (map id_of us) q) ≡ true → interface_at q set ≡ None) [
      | true ↦ λ e g. at_text q u.interface.id set ((bytes_eq-Decides (dtmi_text q) (dtmi_text u.interface.id)).0 e) ∙ absent.0
      | false ↦ λ e g. absent_one us set absent.1 q g
    ] refl h

no_record : (o : Option Interface) (e : Option Record) → o ≡ None → RecordOf o e → e ≡ None
no_record None None is h = refl
no_record None (Some r) is h = absurd h
no_record (Some i) e is h = absurd (none-some i (sym is))

pub record_absent : (set : List Interface) (es : Records) → AreRecords set es → (q : Identifier) → interface_at q set ≡ None → record_at q es ≡ None
record_absent set es fits q none = no_record (interface_at q set) (record_at q es) none (fits q)

-- ---- as before
pub rolled_back : (us : List Uploaded) (ids : List Identifier) (set grown : List Interface) → ids ≡ map id_of us → InOrder set → InOrder grown → AreAbsent set us → ((q : Identifier) → is_one_of (map id_of us) q ≡ false → interface_at q grown ≡ interface_at q set)
    → without_interfaces ids grown ≡ set
rolled_back us ids set grown of sorted also absent same =
    same_set (without_interfaces ids grown) set (ordered_without ids grown also) sorted
    (λ q. at_without ids grown q ∙ ap (λ xs. cond (is_one_of xs q) None (interface_at q grown)) of ∙ by q (is_one_of (map id_of us) q) refl)
  where
    by : (q : Identifier) (b : Bool) → is_one_of (map id_of us) q ≡ b → cond (is_one_of (map id_of us) q) None (interface_at q grown) ≡ interface_at q set
    by q true e = ap (λ b. cond b None (interface_at q grown)) e ∙ sym (absent_one us set absent q e)
    by q false e = ap (λ b. cond b None (interface_at q grown)) e ∙ same q e

pub records_back : (us : List Uploaded) (ids : List Identifier) (set : List Interface) (es grown new : Records) → ids ≡ map id_of us → AreAbsent set us → AreRecords set es → ((q : Identifier) → is_one_of (map id_of us) q ≡ false → record_at q grown ≡ record_at q es)
    → ((q : Identifier) → record_at q new ≡ cond (is_one_of ids q) None (record_at q grown)) → (q : Identifier) → record_at q new ≡ record_at q es
records_back us ids set es grown new of absent fits same gone q = gone q ∙ ap (λ xs. cond (is_one_of xs q) None (record_at q grown)) of ∙ by (is_one_of (map id_of us) q) refl
  where
    by : (b : Bool) → is_one_of (map id_of us) q ≡ b → cond (is_one_of (map id_of us) q) None (record_at q grown) ≡ record_at q es
    by true e = ap (λ b. cond b None (record_at q grown)) e ∙ sym (record_absent set es fits q (absent_one us set absent q e))
    by false e = ap (λ b. cond b None (record_at q grown)) e ∙ same q e

pub models_same : (set : List Interface) (es new : Records) → ((q : Identifier) → record_at q new ≡ record_at q es) → models_of set new ≡ models_of set es
models_same [] es new same = refl
models_same (i ∷ is) es new same = ap (λ o. model_of i (is_marked o) ∷ models_of is new) (same i.id) ∙ ap (λ ms. seen es i ∷ ms) (models_same is es new same)

pub fits_same : (set now : List Interface) (es new : Records) (us vs : Users) → now ≡ set → ((q : Identifier) → record_at q new ≡ record_at q es) → ((t u : Identifier) → user_at t u vs ≡ user_at t u us) → RecordsFit set es us → RecordsFit now new vs
fits_same set now es new us vs is same alike fits = record {
  records = λ q. subst (λ o. RecordOf o (record_at q new)) (sym (ap (interface_at q) is)) (subst (RecordOf (interface_at q set)) (sym (same q)) (fits.records q));
  users = λ t u. alike t u ∙ fits.users t u ∙ sym (ap (λ s. use_of t (interface_at u s)) is);
}

pub users_back : (us : List Uploaded) (ids : List Identifier) (set : List Interface) (old grown new : Users) → ids ≡ map id_of us → AreAbsent set us → ((t u : Identifier) → user_at t u old ≡ use_of t (interface_at u set))
    → ((t u : Identifier) → is_one_of ids u ≡ false → user_at t u grown ≡ user_at t u old) → ((t u : Identifier) → user_at t u new ≡ cond (is_one_of ids u) None (user_at t u grown)) → (t u : Identifier) → user_at t u new ≡ user_at t u old
users_back us ids set old grown new of absent fits same gone t u = gone t u ∙ by (is_one_of ids u) refl
  where
    by : (b : Bool) → is_one_of ids u ≡ b → cond (is_one_of ids u) None (user_at t u grown) ≡ user_at t u old
    by true e =
        ap (λ b. cond b None (user_at t u grown)) e
        ∙ sym (fits t u ∙ ap (use_of t) (absent_one us set absent u (sym (ap (λ xs. is_one_of xs u) of) ∙ e)))
    by false e = ap (λ b. cond b None (user_at t u grown)) e ∙ same t u e

-- ---- what an interface uses is there
pub names_of : (t : Identifier) (k : KindTerm) → is_component t k ≡ true → (p : Identifier) × (k ≡ component p) × (id_eq t p ≡ true)
names_of t (telemetry schema semantic unit) h = absurd (true≢false (sym h))
names_of t (property schema semantic unit writable) h = absurd (true≢false (sym h))
names_of t (command request response) h = absurd (true≢false (sym h))
names_of t (relationship target properties most writable) h = absurd (true≢false (sym h))
names_of t (component of) h = (of, refl, h)

some_of : {X : Type 0} (o : Option X) → (o ≡ None → ⊥) → IsSome o
some_of None h = absurd (h refl)
some_of (Some x) h = refl

pub used_there : (set : List Interface) → LacksNone set → (i : Interface) (t : Identifier) → IsThere set i → uses t i ≡ true → IsSome (interface_at t set)
used_there set whole i t there used =
    elim (or_cases (list_any (id_eq t) i.parents) (list_any (λ c. is_component t (kind_term c.kind)) i.contents) used) [
      | inl h ↦
          let one = placed_from_any (id_eq t) i.parents h in
          subst IsSome (sym (at_text t one.1 set ((bytes_eq-Decides (dtmi_text t) (dtmi_text one.1)).0 one.3))) (some_of (interface_at one.1 set) (λ none. (whole i one.0 there).0 (one.1, one.2, none)))
      | inr h ↦
          let one = placed_from_any (λ (c : Content). is_component t (kind_term c.kind)) i.contents h in
          let of = names_of t (kind_term one.1.kind) one.3 in
          subst IsSome (sym (at_text t of.0 set ((bytes_eq-Decides (dtmi_text t) (dtmi_text of.0)).0 of.2))) (some_of (interface_at of.0 set) (λ none. (whole i one.0 there).1 (of.0, (one.1, one.2, of.1), none)))
    ]

text_in : (t : Identifier) (o : Option Interface) (e : Option Record) → IsSome o → ((j : Interface) → o ≡ Some j → dtmi_text t ≡ dtmi_text j.id) → RecordOf o e → IsSomeAnd e (λ r. r.text ≡ dtmi_text t)
text_in t None e some same h = absurd (true≢false (sym some))
text_in t (Some j) None some same h = absurd h
text_in t (Some j) (Some r) some same h = h.text ∙ sym (same j refl)

pub texts_of : (set : List Interface) (es : Records) → LacksNone set → AreRecords set es → HaveTexts set es
texts_of set es whole fits i t there used = text_in t (interface_at t set) (record_at t es) (used_there set whole i t there used) (λ j found. spelled set t j found) (fits t)

record_text : (a b : Identifier) (es : Records) → dtmi_text a ≡ dtmi_text b → record_at a es ≡ record_at b es
record_text a b es e = ap (λ t. lookup (λ (k : Identifier). is_eq (C t (dtmi_text k))) es) e

-- ---- the larger set
module _ (us : List Uploaded) (set : List Interface) (absent : AreAbsent set us) (apart : HaveDistinctIds (map interface_of us)) where
  pub upload_there : (k : ℕ) (u : Uploaded) → slice_get us k ≡ Some u → interface_at u.interface.id (with_uploads us set) ≡ Some u.interface
  upload_there k u at =
      sym (uploads_same us set absent apart u.interface.id)
      ∙ at_append u.interface.id set (map interface_of us)
      ∙ ap (λ o. or_else o (interface_at u.interface.id (map interface_of us))) (all_at (λ v. interface_at v.interface.id set ≡ None) us k u absent at)
      ∙ there_apart (map interface_of us) apart k u.interface (mapped_at interface_of us k u at)

  pub joined_records : (es new : Records) → AreRecords set es → AllByRecursion (λ u. record_at u.interface.id new ≡ Some (fresh_record u.interface)) us → ((q : Identifier) → is_one_of (map id_of us) q ≡ false → interface_at q (with_uploads us set) ≡ interface_at q set)
      → ((q : Identifier) → is_one_of (map id_of us) q ≡ false → record_at q new ≡ record_at q es) → AreRecords (with_uploads us set) new
  joined_records es new fits put others same q = by (is_one_of (map id_of us) q) refl
    where
      by : (b : Bool) → is_one_of (map id_of us) q ≡ b → RecordOf (interface_at q (with_uploads us set)) (record_at q new)
      by true e =
          let one = placed_from_any (id_eq q) (map id_of us) e in
          let u = unmapped_at id_of us one.0 one.1 one.2 in
          let text : dtmi_text q ≡ dtmi_text u.0.interface.id = (bytes_eq-Decides (dtmi_text q) (dtmi_text one.1)).0 one.3 ∙ ap dtmi_text (sym u.2) in
          let r : IsRecord u.0.interface (fresh_record u.0.interface) = record { text = refl; bytes = refl } in
          subst (λ o. RecordOf o (record_at q new)) (sym (at_text q u.0.interface.id (with_uploads us set) text ∙ upload_there one.0 u.0 u.1))
          (subst (RecordOf (Some u.0.interface)) (sym (record_text q u.0.interface.id new text ∙ all_at (λ v. record_at v.interface.id new ≡ Some (fresh_record v.interface)) us one.0 u.0 put u.1)) r)
      by false e = subst (λ o. RecordOf o (record_at q new)) (sym (others q e)) (subst (RecordOf (interface_at q set)) (sym (same q e)) (fits q))

  pub within_joined : (old : Users) → ((t u : Identifier) → user_at t u old ≡ use_of t (interface_at u set)) → ((q : Identifier) → is_one_of (map id_of us) q ≡ false → interface_at q (with_uploads us set) ≡ interface_at q set) → UsersAreWithin (with_uploads us set) old
  within_joined old fits others t u none = by (is_one_of (map id_of us) u) refl
    where
      by : (b : Bool) → is_one_of (map id_of us) u ≡ b → user_at t u old ≡ None
      by true e = fits t u ∙ ap (use_of t) (absent_one us set absent u e)
      by false e = fits t u ∙ sym (ap (use_of t) (others u e)) ∙ none

-- ---- models that come
module _ (g : Identifier → Bool) where
  abbrev by_mark : Interface → Model
  by_mark i = model_of i (g i.id)

  pub values_by : (ms : List Model) → values_of (by_id ms) ≡ ms
  values_by [] = refl
  values_by (m ∷ ms) = ap (λ xs. m ∷ xs) (values_by ms)

  with_one : (i : Interface) → g i.id ≡ false → (set : List Interface) → with_model i (map by_mark set) ≡ map by_mark (with_interface i set)
  with_one i off [] = ap (λ b. model_of i b ∷ []) (sym off)
  with_one i off (j ∷ js) =
      elim (id_cmp i.id j.id) as (λ o.
      values_of (match_ordering o ((i.id, model_of i false) ∷ (j.id, by_mark j) ∷ by_id (map by_mark js)) ((j.id, model_of i false) ∷ by_id (map by_mark js)) ((j.id, by_mark j) ∷ insert_entry id_cmp (by_id (map by_mark js)) i.id (model_of i false)))
      ≡ map by_mark (values_of (match_ordering o ((i.id, i) ∷ (j.id, j) ∷ keyed js) ((j.id, i) ∷ keyed js) ((j.id, j) ∷ insert_entry id_cmp (keyed js) i.id i)))) [
        | Less ↦
            ap (λ b. model_of i b ∷ by_mark j ∷ values_of (by_id (map by_mark js))) (sym off)
            ∙ ap (λ ms. by_mark i ∷ by_mark j ∷ ms) (values_by (map by_mark js) ∙ ap (map by_mark) (sym (values-keyed js)))
        | Equal ↦
            ap (λ b. model_of i b ∷ values_of (by_id (map by_mark js))) (sym off)
            ∙ ap (λ ms. by_mark i ∷ ms) (values_by (map by_mark js) ∙ ap (map by_mark) (sym (values-keyed js)))
        | Greater ↦ ap (λ ms. by_mark j ∷ ms) (with_one i off js)
      ]

  with_all : (us : List Uploaded) (set : List Interface) → AllByRecursion (λ u. g u.interface.id ≡ false) us → with_new_models us (map by_mark set) ≡ map by_mark (with_uploads us set)
  with_all [] set off = refl
  with_all (u ∷ us) set off = ap (with_new_models us) (with_one u.interface off.0 set) ∙ with_all us (with_interface u.interface set) off.1

map_same_on : (f g : Interface → Model) (is : List Interface) → ((i : Interface) → Contains is i → f i ≡ g i) → map f is ≡ map g is
map_same_on f g [] h = refl
map_same_on f g (i ∷ is) h = ap (λ m. m ∷ map f is) (h i (contains_head i is)) ∙ ap (λ ms. g i ∷ ms) (map_same_on f g is (λ j c. h j (contains_tail i is j c)))

unmarked : (us : List Uploaded) (new : Records) → AllByRecursion (λ u. record_at u.interface.id new ≡ Some (fresh_record u.interface)) us → AllByRecursion (λ u. record_mark_at u.interface.id new ≡ false) us
unmarked [] new all = tt
unmarked (u ∷ us) new all = (ap is_marked all.0, unmarked us new all.1)

pub joined_models : (us : List Uploaded) (set : List Interface) (es new : Records) → InOrder set → AreAbsent set us → AllByRecursion (λ u. record_at u.interface.id new ≡ Some (fresh_record u.interface)) us
    → ((q : Identifier) → is_one_of (map id_of us) q ≡ false → record_at q new ≡ record_at q es) → models_of (with_uploads us set) new ≡ with_new_models us (models_of set es)
joined_models us set es new sorted absent put same =
    sym (with_all (λ id. record_mark_at id new) us set (unmarked us new put))
    ∙ ap (with_new_models us) (map_same_on (seen new) (seen es) set (λ i c. ap (λ o. model_of i (is_marked o)) (same i.id (other i ((listed set sorted i).0 c)))))
  where
    other : (i : Interface) → IsThere set i → is_one_of (map id_of us) i.id ≡ false
    other i there =
        elim (is_one_of (map id_of us) i.id) as (λ b. is_one_of (map id_of us) i.id ≡ b → b ≡ false) [
          | true ↦ λ e. absurd (none-some i (sym (absent_one us set absent i.id e) ∙ there))
          | false ↦ λ _. refl
        ] refl

-- ---- models that go
pub left_models : (ids : List Identifier) (set : List Interface) (es new : Records) → ((q : Identifier) → record_at q new ≡ cond (is_one_of ids q) None (record_at q es)) → models_of (without_interfaces ids set) new ≡ without_models ids (models_of set es)
left_models ids [] es new gone = refl
left_models ids (i ∷ is) es new gone =
    elim (is_one_of ids i.id) as (λ b. is_one_of ids i.id ≡ b → models_of (cond (not b) (i ∷ without_interfaces ids is) (without_interfaces ids is)) new ≡ cond (not b) (seen es i ∷ without_models ids (models_of is es)) (without_models ids (models_of is es))) [
      | true ↦ λ e. left_models ids is es new gone
      | false ↦ λ e.
          ap (λ o. model_of i (is_marked o) ∷ models_of (without_interfaces ids is) new) (gone i.id ∙ ap (λ b. cond b None (record_at i.id es)) e)
          ∙ ap (λ ms. seen es i ∷ ms) (left_models ids is es new gone)
    ] refl

pub left_fits : (ids : List Identifier) (set : List Interface) (es new : Records) (us vs : Users) → ((q : Identifier) → record_at q new ≡ cond (is_one_of ids q) None (record_at q es)) → ((t u : Identifier) → user_at t u vs ≡ cond (is_one_of ids u) None (user_at t u us))
    → RecordsFit set es us → RecordsFit (without_interfaces ids set) new vs
left_fits ids set es new us vs gone left fits = record {
  records = λ q. subst (λ o. RecordOf o (record_at q new)) (sym (at_without ids set q)) (subst (RecordOf (cond (is_one_of ids q) None (interface_at q set))) (sym (gone q)) (both (is_one_of ids q) q));
  users = λ t u. left t u ∙ ap (cond (is_one_of ids u) None) (fits.users t u) ∙ turned (is_one_of ids u) t (interface_at u set) ∙ sym (ap (use_of t) (at_without ids set u));
}
  where
    both : (b : Bool) (q : Identifier) → RecordOf (cond b None (interface_at q set)) (cond b None (record_at q es))
    both true q = tt
    both false q = fits.records q

    turned : (b : Bool) (t : Identifier) (o : Option Interface) → cond b None (use_of t o) ≡ use_of t (cond b None o)
    turned true t o = refl
    turned false t o = refl

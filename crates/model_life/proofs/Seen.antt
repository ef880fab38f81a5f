-- Models as they are seen: each interface with the mark of its record.
use Rattle.std.proofs.Common.{◌≡◌, List, [], ◌∷◌, Bool, true, false, not, cond, Option, Some, None, refl, sym, ap, ◌∙◌, subst, true≢false, is_eq}
use Rattle.std.specs.Prelude.{slice_get, IsSome}
use Rattle.std.specs.Option.{is_some, option_map, option_copied}
use Rattle.std.specs.List.{filter}
use Rattle.std.specs.Map.{lookup, set_value}
use Rattle.std.specs.BTreeMap.{is_at}
use Rattle.std.proofs.lemmas.Option.{none-some}
use denote.Ref.{Bor}
use Rattle.ordered_table.proofs.Kept.{lookup-set}
use Rattle.std.proofs.lemmas.Slice.Eq.{bytes_eq-Decides}
use Rattle.dt_base.specs.names.Grammar.{Identifier, dtmi_text, id_cmp, id_eq}
use Rattle.dtdl_terms.specs.Sets.{interface_at, is_past, next_past}
use Rattle.dtdl_terms.specs.declared.interface.Interface.{Interface}
use Rattle.model_life.proofs.resolution.ByKey.{C}
use Rattle.model_life.proofs.resolution.Families.{spelled}
use Rattle.model_life.proofs.resolution.Changes.{ids_total}
use Rattle.model_life.proofs.sets.Looking.{eq_tests, turned}
use Rattle.model_life.specs.Models.{Model, model_of, interfaces_of, model_at, next_model, mark_one, with_mark}
use Rattle.model_life.specs.Machinery.Keeping.{record_at, is_marked, record_mark_at, models_of, RecordOf, Users, RecordsFit}
use Rattle.model_life.specs.declared.records.Record.{Record}

abbrev pub Records : Type 0
Records = List (Identifier × Record)

abbrev pub seen : Records → Interface → Model
seen es i = model_of i (record_mark_at i.id es)

pub seen_all : (set : List Interface) (es : Records) → interfaces_of (models_of set es) ≡ set
seen_all [] es = refl
seen_all (i ∷ is) es = ap (λ js. i ∷ js) (seen_all is es)

pub seen_at : (id : Identifier) (set : List Interface) (es : Records) → model_at id (models_of set es) ≡ option_map (seen es) (interface_at id set)
seen_at id [] es = refl
seen_at id (i ∷ is) es =
    elim (is_eq (id_cmp id i.id)) as (λ b. cond b (Some (seen es i)) (model_at id (models_of is es)) ≡ option_map (seen es) (cond b (Some i) (interface_at id is))) [
      | true ↦ refl
      | false ↦ seen_at id is es
    ]

filter_seen : (id : Option Identifier) (set : List Interface) (es : Records) → filter (λ m. is_past id m.interface) (models_of set es) ≡ models_of (filter (is_past id) set) es
filter_seen id [] es = refl
filter_seen id (i ∷ is) es =
    elim (is_past id i) as (λ b. cond b (seen es i ∷ filter (λ m. is_past id m.interface) (models_of is es)) (filter (λ m. is_past id m.interface) (models_of is es)) ≡ models_of (cond b (i ∷ filter (is_past id) is) (filter (is_past id) is)) es) [
      | true ↦ ap (λ ms. seen es i ∷ ms) (filter_seen id is es)
      | false ↦ filter_seen id is es
    ]

first_seen : (set : List Interface) (es : Records) → slice_get (models_of set es) 0 ≡ option_map (seen es) (slice_get set 0)
first_seen [] es = refl
first_seen (i ∷ is) es = refl

pub seen_next : (id : Option Identifier) (set : List Interface) (es : Records) → next_model id (models_of set es) ≡ option_map (seen es) (next_past id set)
seen_next id set es = ap (λ ms. slice_get ms 0) (filter_seen id set es) ∙ first_seen (filter (is_past id) set) es

-- ---- whether one is there
unseen : (o : Option Interface) (es : Records) → o ≡ None → option_map (seen es) o ≡ None
unseen o es e = ap (option_map (seen es)) e

none_from : {X : Type 0} (o : Option X) → is_some o ≡ false → o ≡ None
none_from None e = refl
none_from (Some x) e = absurd (true≢false e)

copied_some : {X : Type 0} (o : Option (Bor X)) → is_some (option_copied o) ≡ is_some o
copied_some None = refl
copied_some (Some x) = refl

pub found_none : {X : Type 0} (o : Option (Bor X)) (p : Option X) (b : Bool) → is_some o ≡ not b → b ≡ true → option_copied o ≡ p → p ≡ None
found_none o p b f g is = none_from p (ap is_some (sym is) ∙ copied_some o ∙ f ∙ ap not g)

pub found_some : {X : Type 0} (o : Option (Bor X)) (p : Option X) (b : Bool) → is_some o ≡ not b → b ≡ false → option_copied o ≡ p → IsSome p
found_some o p b f g is = ap is_some (sym is) ∙ copied_some o ∙ f ∙ ap not g

pub seen_none : (id : Identifier) (set : List Interface) (es : Records) (ms : List Model) → models_of set es ≡ ms → interface_at id set ≡ None → model_at id ms ≡ None
seen_none id set es ms view e = ap (model_at id) (sym view) ∙ seen_at id set es ∙ unseen (interface_at id set) es e

pub seen_some : (id : Identifier) (set : List Interface) (es : Records) (ms : List Model) → models_of set es ≡ ms → IsSome (interface_at id set) → IsSome (model_at id ms)
seen_some id set es ms view h = ap is_some (ap (model_at id) (sym view) ∙ seen_at id set es) ∙ kept (interface_at id set) ∙ h
  where
    kept : (o : Option Interface) → is_some (option_map (seen es) o) ≡ is_some o
    kept None = refl
    kept (Some i) = refl

pub interface_seen : (id : Identifier) (set : List Interface) (es : Records) (ms : List Model) → models_of set es ≡ ms → IsSome (model_at id ms) → IsSome (interface_at id set)
interface_seen id set es ms view h = sym (kept (interface_at id set)) ∙ ap is_some (sym (seen_at id set es) ∙ ap (model_at id) view) ∙ h
  where
    kept : (o : Option Interface) → is_some (option_map (seen es) o) ≡ is_some o
    kept None = refl
    kept (Some i) = refl

pub none_seen : (id : Identifier) (set : List Interface) (es : Records) (ms : List Model) → models_of set es ≡ ms → model_at id ms ≡ None → interface_at id set ≡ None
none_seen id set es ms view h = by (interface_at id set) refl
  where
    by : (o : Option Interface) → interface_at id set ≡ o → o ≡ None
    by None e = refl
    by (Some i) e = absurd (none-some (seen es i) (sym h ∙ ap (model_at id) (sym view) ∙ seen_at id set es ∙ ap (option_map (seen es)) e))

-- ---- marks
record_in : (o : Option Interface) (e : Option Record) → IsSome o → RecordOf o e → (r : Record) × (e ≡ Some r)
record_in None e some h = absurd (true≢false (sym some))
record_in (Some i) None some h = absurd h
record_in (Some i) (Some r) some h = (r, refl)

pub record_there : (set : List Interface) (es : Records) (us : Users) (id : Identifier) → RecordsFit set es us → IsSome (interface_at id set) → (r : Record) × (record_at id es ≡ Some r)
record_there set es us id fits some = record_in (interface_at id set) (record_at id es) some (fits.records id)

pub marked_at : (id : Identifier) (es new : Records) (w : Record) → IsSome (record_at id es) → new ≡ set_value (is_at (id_cmp id)) es w → (q : Identifier) → record_at q new ≡ cond (id_eq q id) (Some w) (record_at q es)
marked_at id es new w some is q = ap (record_at q) is ∙ lookup-set ids_total q id w es some ∙ ap (λ b. cond b (Some w) (record_at q es)) (eq_tests q id)

pub marked_seen : (id : Identifier) (on : Bool) (set : List Interface) (es new : Records) (w : Record) → w.decommissioned ≡ on → ((q : Identifier) → record_at q new ≡ cond (id_eq q id) (Some w) (record_at q es)) → models_of set new ≡ with_mark id on (models_of set es)
marked_seen id on [] es new w mark put = refl
marked_seen id on (i ∷ is) es new w mark put =
    ap (λ m. m ∷ models_of is new) head ∙ ap (λ ms. mark_one id on (seen es i) ∷ ms) (marked_seen id on is es new w mark put)
  where
    by : (b : Bool) → record_at i.id new ≡ cond b (Some w) (record_at i.id es) → seen new i ≡ cond b (model_of i on) (seen es i)
    by true e = ap (λ o. model_of i (is_marked o)) e ∙ ap (model_of i) mark
    by false e = ap (λ o. model_of i (is_marked o)) e

    head : seen new i ≡ mark_one id on (seen es i)
    head = by (id_eq i.id id) (put i.id) ∙ ap (λ b. cond b (model_of i on) (seen es i)) (turned i.id id)

marked_record : (o : Option Interface) (r w : Record) → w.text ≡ r.text → w.bytes ≡ r.bytes → RecordOf o (Some r) → RecordOf o (Some w)
marked_record None r w t b h = h
marked_record (Some i) r w t b h = record { text = t ∙ h.text; bytes = b ∙ h.bytes }

pub marked_fits : (set : List Interface) (es new : Records) (us : Users) (id : Identifier) (r w : Record) → w.text ≡ r.text → w.bytes ≡ r.bytes → record_at id es ≡ Some r → ((q : Identifier) → record_at q new ≡ cond (id_eq q id) (Some w) (record_at q es)) → ((q : Identifier) → id_eq q id ≡ true → record_at q es ≡ record_at id es)
    → RecordsFit set es us → RecordsFit set new us
marked_fits set es new us id r w t b found put same fits = record { records = λ q. by q (id_eq q id) refl; users = fits.users }
  where
    by : (q : Identifier) (c : Bool) → id_eq q id ≡ c → RecordOf (interface_at q set) (record_at q new)
    by q true e =
        subst (RecordOf (interface_at q set)) (sym (put q ∙ ap (λ c. cond c (Some w) (record_at q es)) e))
        (marked_record (interface_at q set) r w t b (subst (RecordOf (interface_at q set)) (same q e ∙ found) (fits.records q)))
    by q false e = subst (RecordOf (interface_at q set)) (sym (put q ∙ ap (λ c. cond c (Some w) (record_at q es)) e)) (fits.records q)

pub record_at_text : (id : Identifier) (es : Records) (q : Identifier) → id_eq q id ≡ true → record_at q es ≡ record_at id es
record_at_text id es q e = ap (λ t. lookup (λ (k : Identifier). is_eq (C t (dtmi_text k))) es) ((bytes_eq-Decides (dtmi_text q) (dtmi_text id)).0 e)

pub copied_is : {X : Type 0} (o : Option (Bor X)) (p : Option X) → option_copied o ≡ p → is_some o ≡ true → IsSome p
copied_is o p is h = ap is_some (sym is) ∙ copied_some o ∙ h

pub copied_not : {X : Type 0} (o : Option (Bor X)) (p : Option X) → option_copied o ≡ p → is_some o ≡ false → p ≡ None
copied_not o p is h = none_from p (ap is_some (sym is) ∙ copied_some o ∙ h)

-- the text that is kept is the identifier's
pub text_there : (set : List Interface) (es : Records) (us : Users) (id : Identifier) (r : Record) → RecordsFit set es us → record_at id es ≡ Some r → r.text ≡ dtmi_text id
text_there set es us id r fits found = by (interface_at id set) refl (subst (RecordOf (interface_at id set)) found (fits.records id))
  where
    by : (o : Option Interface) → interface_at id set ≡ o → RecordOf o (Some r) → r.text ≡ dtmi_text id
    by None e h = absurd h
    by (Some i) e h = h.text ∙ sym (spelled set id i e)

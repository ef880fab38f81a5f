-- Models that come, and are taken out again.
use Rattle.std.proofs.Common.{◌≡◌, inl, inr, List, [], ◌∷◌, map, Bool, true, false, not, cond, ◌||◌, Option, Some, None, refl, sym, ap, ◌∙◌, subst, true≢false, is_eq, Less, Equal, Greater}
use Rattle.std.specs.Option.{option_map, is_none}
use Rattle.std.specs.List.{AllByRecursion}
use Rattle.std.proofs.lemmas.Option.{none-some}
use Rattle.std.proofs.lemmas.Slice.Eq.{bytes_eq-Decides}
use Rattle.std.specs.Ordering.{match_ordering}
use Rattle.std.proofs.lemmas.Bool.{or_right}
use Rattle.dt_base.specs.names.Grammar.{Identifier, dtmi_text, id_cmp, id_eq}
use Rattle.dtdl_terms.specs.Distinct.{AreDistinct, HasDeclaration}
use Rattle.dtdl_terms.specs.Sets.{InOrder, interface_at}
use Rattle.dtdl_terms.specs.declared.interface.Interface.{Interface}
use Rattle.dtdl_terms.specs.declared.uploaded.Uploaded.{Uploaded}
use Rattle.extend_resolve.specs.Breaches.{BreaksNoRule, IsSound}
use Rattle.model_life.specs.resolution.Resolving.{IsWithin, LacksNone}
use Rattle.model_life.specs.resolution.Machinery.Families.{IsThere}
use Rattle.model_life.proofs.resolution.Changes.{lacks_none}
use Rattle.model_life.specs.sets.Changing.{with_uploads, is_one_of, HaveDistinctIds, AreFree}
use Rattle.model_life.proofs.sets.Looking.{AreAbsent, or_else, at_append, eq_tests, one_text_of, uploads_same}
use Rattle.model_life.proofs.sets.Sound.{new_apart}
use Rattle.model_life.specs.Models.{Model, interfaces_of, model_at, with_model, with_new_models, without_models}
use Rattle.model_life.specs.Refusals.{AreNew}
use Rattle.model_life.proofs.Growing.{absent_one}
use Rattle.model_life.proofs.Refused.{interfaces_with}
use Rattle.graph_steps.specs.Soundness.{IsSoundUpload}
use Rattle.graph_machine.proofs.Ascending.{all_weaker, place, new_of, same_text}
use Rattle.graph_machine.proofs.Uploads.{is_new, known}

abbrev pub upload_id : Uploaded → Identifier
upload_id u = u.interface.id

abbrev interface : Uploaded → Interface
interface u = u.interface

-- What sound uploads bring has a declaration.
pub all_declared : (us : List Uploaded) → AllByRecursion IsSoundUpload us → AllByRecursion (λ u. HasDeclaration u.interface) us
all_declared [] all = tt
all_declared (u ∷ us) all = (all.0.interface.declaration, all_declared us all.1)

-- ---- look-ups
interface_found : (id : Identifier) (ms : List Model) → interface_at id (interfaces_of ms) ≡ option_map (λ (m : Model). m.interface) (model_at id ms)
interface_found id [] = refl
interface_found id (m ∷ ms) =
    ap (λ (o : Option Interface). cond (is_eq (id_cmp id m.interface.id)) (Some m.interface) o) (interface_found id ms)
    ∙ (elim (is_eq (id_cmp id m.interface.id)) as (λ b. cond b (Some m.interface) (option_map (λ (n : Model). n.interface) (model_at id ms)) ≡ option_map (λ (n : Model). n.interface) (cond b (Some m) (model_at id ms))) [ true ↦ refl | false ↦ refl ])

all_absent : (ms : List Model) (us : List Uploaded) → AreNew ms us → AreAbsent (interfaces_of ms) us
all_absent ms [] new = tt
all_absent ms (u ∷ us) new = (interface_found u.interface.id ms ∙ ap (option_map (λ (m : Model). m.interface)) new.0, all_absent ms us new.1)

at_none : (us : List Uploaded) (q : Identifier) → is_one_of (map upload_id us) q ≡ false → interface_at q (map interface us) ≡ None
at_none [] q off = refl
at_none (u ∷ us) q off =
    elim (id_eq q u.interface.id) as (λ b. id_eq q u.interface.id ≡ b → (b || is_one_of (map upload_id us) q) ≡ false → interface_at q (map interface (u ∷ us)) ≡ None) [
      | true ↦ λ e h. absurd (true≢false h)
      | false ↦ λ e h. ap (λ b. cond b (Some u.interface) (interface_at q (map interface us))) (eq_tests q u.interface.id ∙ e) ∙ at_none us q h
    ] refl off

or_none : (o : Option Interface) → or_else o None ≡ o
or_none None = refl
or_none (Some i) = refl

-- each upload is one of them
each_one : (us : List Uploaded) → AllByRecursion (λ u. is_one_of (map upload_id us) u.interface.id ≡ true) us
each_one [] = tt
each_one (u ∷ us) = (
  ap (λ b. b || is_one_of (map upload_id us) u.interface.id) ((bytes_eq-Decides (dtmi_text u.interface.id) (dtmi_text u.interface.id)).1 refl),
  more us (each_one us),
)
  where
    more : (vs : List Uploaded) → AllByRecursion (λ v. is_one_of (map upload_id us) v.interface.id ≡ true) vs → AllByRecursion (λ v. is_one_of (map upload_id (u ∷ us)) v.interface.id ≡ true) vs
    more [] all = tt
    more (v ∷ vs) all = (or_right (id_eq v.interface.id u.interface.id) (is_one_of (map upload_id us) v.interface.id) all.0, more vs all.1)

same_texts : (us : List Uploaded) → map (λ (i : Interface). dtmi_text i.id) (map interface us) ≡ map (λ (id : Identifier). dtmi_text id) (map upload_id us)
same_texts [] = refl
same_texts (u ∷ us) = ap (λ ts. dtmi_text u.interface.id ∷ ts) (same_texts us)

-- ---- models that come and go again
gone_one : (ids : List Identifier) (i : Interface) → is_one_of ids i.id ≡ true → (ms : List Model) → without_models ids (with_model i ms) ≡ without_models ids ms
gone_one ids i on [] = ap (λ b. cond (not b) (new_of i ∷ []) []) on
gone_one ids i on (m ∷ ms) =
    ap (without_models ids) (place i m ms)
    ∙ (elim (id_cmp i.id m.interface.id) as (λ o. id_cmp i.id m.interface.id ≡ o
    → without_models ids (match_ordering o (new_of i ∷ m ∷ ms) (new_of i ∷ ms) (m ∷ with_model i ms)) ≡ without_models ids (m ∷ ms)) [
      | Less ↦ λ e. ap (λ b. cond (not b) (new_of i ∷ without_models ids (m ∷ ms)) (without_models ids (m ∷ ms))) on
      | Equal ↦ λ e.
          let same : is_one_of ids m.interface.id ≡ true = sym (one_text_of ids i.id m.interface.id (same_text i.id m.interface.id e)) ∙ on in
          ap (λ b. cond (not b) (new_of i ∷ without_models ids ms) (without_models ids ms)) on
          ∙ sym (ap (λ b. cond (not b) (m ∷ without_models ids ms) (without_models ids ms)) same)
      | Greater ↦ λ e. ap (λ ns. cond (not (is_one_of ids m.interface.id)) (m ∷ ns) ns) (gone_one ids i on ms)
    ] refl)

gone_all : (ids : List Identifier) (us : List Uploaded) (ms : List Model) → AllByRecursion (λ u. is_one_of ids u.interface.id ≡ true) us → without_models ids (with_new_models us ms) ≡ without_models ids ms
gone_all ids [] ms on = refl
gone_all ids (u ∷ us) ms on = gone_all ids us (with_model u.interface ms) on.1 ∙ gone_one ids u.interface on.0 ms

none_gone : (ids : List Identifier) (ms : List Model) → AllByRecursion (λ m. is_one_of ids m.interface.id ≡ false) ms → without_models ids ms ≡ ms
none_gone ids [] off = refl
none_gone ids (m ∷ ms) off = ap (λ b. cond (not b) (m ∷ without_models ids ms) (without_models ids ms)) off.0 ∙ ap (λ ns. m ∷ ns) (none_gone ids ms off.1)

module _ (us : List Uploaded) (ms : List Model) (rules : BreaksNoRule (interfaces_of ms)) (ordered : InOrder (interfaces_of ms)) (new : AreNew ms us) (sound : IsSound (interfaces_of ms) us) where
  absent : AreAbsent (interfaces_of ms) us
  absent = all_absent ms us new

  apart : HaveDistinctIds (map interface us)
  apart = new_apart (interfaces_of ms) us ordered absent sound

  pub taken_distinct : AreDistinct (map (λ (id : Identifier). dtmi_text id) (map upload_id us))
  taken_distinct = subst AreDistinct (same_texts us) apart

  same_at : (q : Identifier) → interface_at q (with_uploads us (interfaces_of ms)) ≡ or_else (interface_at q (interfaces_of ms)) (interface_at q (map interface us))
  same_at q = sym (uploads_same us (interfaces_of ms) absent apart q) ∙ at_append q (interfaces_of ms) (map interface us)

  within_uploads : IsWithin (interfaces_of ms) (with_uploads us (interfaces_of ms))
  within_uploads p i found = same_at p ∙ ap (λ o. or_else o (interface_at p (map interface us))) found

  pub taken_within : IsWithin (interfaces_of ms) (interfaces_of (with_new_models us ms))
  taken_within = subst (IsWithin (interfaces_of ms)) (sym (interfaces_with us ms)) within_uploads

  pub taken_whole : LacksNone (interfaces_of ms)
  taken_whole = lacks_none (interfaces_of ms) rules

  others_at : (q : Identifier) → is_one_of (map upload_id us) q ≡ false → interface_at q (with_uploads us (interfaces_of ms)) ≡ interface_at q (interfaces_of ms)
  others_at q off = same_at q ∙ ap (or_else (interface_at q (interfaces_of ms))) (at_none us q off) ∙ or_none (interface_at q (interfaces_of ms))

  absent_id : (q : Identifier) → is_one_of (map upload_id us) q ≡ true → interface_at q (interfaces_of ms) ≡ None
  absent_id q on = absent_one us (interfaces_of ms) absent q on

  free_uploads : AreFree (with_uploads us (interfaces_of ms)) (map upload_id us)
  free_uploads i k p there named on = by (is_one_of (map upload_id us) i.id) refl
    where
      by : (b : Bool) → is_one_of (map upload_id us) i.id ≡ b → is_one_of (map upload_id us) i.id ≡ true
      by true e = e
      by false e =
          let own : IsThere (interfaces_of ms) i = sym (others_at i.id e) ∙ there in
          let all = taken_whole i k own in
          absurd (elim named [ inl h ↦ all.0 (p, h, absent_id p on) | inr h ↦ all.1 (p, h, absent_id p on) ])

  pub taken_free : AreFree (interfaces_of (with_new_models us ms)) (map upload_id us)
  taken_free = subst (λ set. AreFree set (map upload_id us)) (sym (interfaces_with us ms)) free_uploads

  not_one : (m : Model) → is_new ms m ≡ false → is_one_of (map upload_id us) m.interface.id ≡ false
  not_one m there = by (is_one_of (map upload_id us) m.interface.id) refl (model_at m.interface.id ms) refl
    where
      by : (b : Bool) → is_one_of (map upload_id us) m.interface.id ≡ b → (o : Option Model) → model_at m.interface.id ms ≡ o → is_one_of (map upload_id us) m.interface.id ≡ false
      by false e o f = e
      by true e None f = absurd (true≢false (sym (ap is_none f) ∙ there))
      by true e (Some n) f = absurd (none-some n.interface (sym (absent_id m.interface.id e) ∙ interface_found m.interface.id ms ∙ ap (option_map (λ (x : Model). x.interface)) f))

  pub taken_back : without_models (map upload_id us) (with_new_models us ms) ≡ ms
  taken_back =
      gone_all (map upload_id us) us ms (each_one us)
      ∙ none_gone (map upload_id us) ms (all_weaker (λ (m : Model). is_new ms m ≡ false) (λ (m : Model). is_one_of (map upload_id us) m.interface.id ≡ false) not_one ms (known ms))

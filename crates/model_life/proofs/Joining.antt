-- What is kept where models come, and where they were taken back.
use Rattle.std.proofs.Common.{◌≡◌, ℕ, zero, suc, ◌+◌, inl, inr, List, [], ◌∷◌, map, Bool, true, false, not, cond, ◌||◌, length, Option, Some, None, refl, sym, ap, ◌∙◌, subst, true≢false, Less, Equal, Greater, arith}
use Rattle.std.specs.Prelude.{slice_get, Contains, IsSome}
use Rattle.std.specs.Option.{is_some}
use Rattle.std.specs.Ordering.{match_ordering}
use Rattle.std.specs.List.{AllByRecursion, sum_by}
use Rattle.std.specs.Map.{values_of}
use Rattle.std.specs.BTreeMap.{insert_entry}
use Rattle.std.proofs.lemmas.Option.{same_Some, none-some}
use Rattle.std.proofs.lemmas.List.Sums.{sum_by-cons}
use Rattle.std.proofs.lemmas.Map.Lookups.{exact_bytes}
use Rattle.std.proofs.lemmas.Slice.Eq.{bytes_eq-Decides}
use Rattle.std.proofs.lemmas.Bool.{or_right}
use Rattle.dt_base.specs.names.Grammar.{Identifier, dtmi_text, id_cmp, id_eq}
use Rattle.dtdl_terms.specs.Distinct.{HasDeclaration}
use Rattle.dtdl_terms.specs.Sets.{keyed, InOrder, interface_at, with_interface}
use Rattle.dtdl_terms.specs.declared.interface.Interface.{Interface}
use Rattle.dtdl_terms.specs.declared.uploaded.Uploaded.{Uploaded}
use Rattle.dtdl_terms.proofs.Keyed.{values-keyed}
use Rattle.extend_resolve.specs.Breaches.{BreaksNoRule, IsSound}
use Rattle.extend_resolve.proofs.Members.{unmapped_at, contains_placed}
use Rattle.model_life.specs.resolution.Resolving.{IsWithin, LacksNone}
use Rattle.model_life.specs.resolution.Machinery.Families.{IsThere}
use Rattle.model_life.proofs.resolution.Families.{listed, stands}
use Rattle.model_life.proofs.resolution.Declared.{get_placed}
use Rattle.model_life.proofs.resolution.Changes.{lacks_none}
use Rattle.model_life.specs.sets.Changing.{with_uploads, is_one_of, without_interfaces, HaveDistinctIds, AreFree}
use Rattle.model_life.proofs.sets.Looking.{AreAbsent, or_else, at_append, eq_tests, one_text_of, uploads_ordered, uploads_same}
use Rattle.model_life.proofs.sets.Sound.{new_apart, with_sound}
use Rattle.model_life.specs.Models.{Model, model_of, by_id, with_model, with_new_models, without_models}
use Rattle.model_life.specs.Sums.{text_bytes, bytes_in, bytes_of, model_bytes}
use Rattle.model_life.specs.Machinery.Keeping.{record_at, models_of, recorded, share_of, share_in, share_at, Written, written_at, AreWritten, Users, user_at, RecordsFit, IsKept}
use Rattle.model_life.proofs.Seen.{Records, seen}
use Rattle.model_life.proofs.Taking.{sum_map, sum_same, sum_with_all, recorded_is, share_same}
use Rattle.model_life.proofs.Whole.{length_seen, bytes_seen}
use Rattle.model_life.proofs.Growing.{absent_one, rolled_back, upload_there, left_fits, left_models}

abbrev interface_of : Uploaded → Interface
interface_of u = u.interface

abbrev id_of : Uploaded → Identifier
id_of u = u.interface.id

-- ---- lists
pub all_placed : {X : Type 0} (P : X → Type 0) (xs : List X) → ((k : ℕ) (x : X) → slice_get xs k ≡ Some x → P x) → AllByRecursion P xs
all_placed P [] h = tt
all_placed P (x ∷ xs) h = (h zero x refl, all_placed P xs (λ k y at. h (suc k) y at))

length_sum : {X : Type 0} (xs : List X) → length xs ≡ sum_by (λ (x : X). 1) xs
length_sum [] = refl
length_sum {X = X} (x ∷ xs) = let rest = length_sum xs in let step = sum_by-cons (λ (y : X). 1) x xs in omega (arith, rest, step)

all_values : (P : Interface → Type 0) (i : Interface) → P i → (set : List Interface) → AllByRecursion P set → AllByRecursion P (with_interface i set)
all_values P i one [] all = (one, tt)
all_values P i one (j ∷ js) all =
    elim (id_cmp i.id j.id) as (λ o. AllByRecursion P (values_of (match_ordering o ((i.id, i) ∷ (j.id, j) ∷ keyed js) ((j.id, i) ∷ keyed js) ((j.id, j) ∷ insert_entry id_cmp (keyed js) i.id i)))) [
      | Less ↦ (one, (all.0, subst (AllByRecursion P) (sym (values-keyed js)) all.1))
      | Equal ↦ (one, subst (AllByRecursion P) (sym (values-keyed js)) all.1)
      | Greater ↦ (all.0, all_values P i one js all.1)
    ]

-- what holds of each interface of a set and of each upload holds of each where they come together
pub all_joined : (P : Interface → Type 0) (us : List Uploaded) (set : List Interface) → AllByRecursion P set → AllByRecursion (λ u. P u.interface) us → AllByRecursion P (with_uploads us set)
all_joined P [] set all new = all
all_joined P (u ∷ us) set all new = all_joined P us (with_interface u.interface set) (all_values P u.interface new.0 set all) new.1

at_none : (us : List Uploaded) (q : Identifier) → is_one_of (map id_of us) q ≡ false → interface_at q (map interface_of us) ≡ None
at_none [] q off = refl
at_none (u ∷ us) q off =
    elim (id_eq q u.interface.id) as (λ b. id_eq q u.interface.id ≡ b → (b || is_one_of (map id_of us) q) ≡ false → interface_at q (map interface_of (u ∷ us)) ≡ None) [
      | true ↦ λ e h. absurd (true≢false h)
      | false ↦ λ e h. ap (λ b. cond b (Some u.interface) (interface_at q (map interface_of us))) (eq_tests q u.interface.id ∙ e) ∙ at_none us q h
    ] refl off

or_none : (o : Option Interface) → or_else o None ≡ o
or_none None = refl
or_none (Some i) = refl

one_at : (us : List Uploaded) (k : ℕ) (u : Uploaded) → slice_get us k ≡ Some u → is_one_of (map id_of us) u.interface.id ≡ true
one_at [] k u at = absurd (none-some u at)
one_at (v ∷ us) zero u at =
    ap (λ b. b || is_one_of (map id_of us) u.interface.id) ((bytes_eq-Decides (dtmi_text u.interface.id) (dtmi_text v.interface.id)).1 (ap (λ (w : Uploaded). dtmi_text w.interface.id) (sym (same_Some v u at))))
one_at (v ∷ us) (suc k) u at = or_right (id_eq u.interface.id v.interface.id) (is_one_of (map id_of us) u.interface.id) (one_at us k u at)

-- ---- models that come and go again
gone_one : (ids : List Identifier) (i : Interface) → is_one_of ids i.id ≡ true → (ms : List Model) → without_models ids (with_model i ms) ≡ without_models ids ms
gone_one ids i on [] = ap (λ b. cond (not b) (model_of i false ∷ []) []) on
gone_one ids i on (n ∷ ns) =
    elim (id_cmp i.id n.interface.id) as (λ o. id_cmp i.id n.interface.id ≡ o → without_models ids (values_of (match_ordering o ((i.id, model_of i false) ∷ (n.interface.id, n) ∷ by_id ns) ((n.interface.id, model_of i false) ∷ by_id ns) ((n.interface.id, n) ∷ insert_entry id_cmp (by_id ns) i.id (model_of i false)))) ≡ without_models ids (n ∷ ns)) [
      | Less ↦ λ e.
          ap (λ b. cond (not b) (model_of i false ∷ without_models ids (n ∷ values_of (by_id ns))) (without_models ids (n ∷ values_of (by_id ns)))) on
          ∙ ap (λ ms. without_models ids (n ∷ ms)) (values_plain ns)
      | Equal ↦ λ e.
          let same : is_one_of ids n.interface.id ≡ true = sym (one_text_of ids i.id n.interface.id (exact_bytes (dtmi_text i.id) (dtmi_text n.interface.id) e)) ∙ on in
          ap (λ b. cond (not b) (model_of i false ∷ without_models ids (values_of (by_id ns))) (without_models ids (values_of (by_id ns)))) on
          ∙ ap (without_models ids) (values_plain ns)
          ∙ sym (ap (λ b. cond (not b) (n ∷ without_models ids ns) (without_models ids ns)) same)
      | Greater ↦ λ e. ap (λ ms. cond (not (is_one_of ids n.interface.id)) (n ∷ ms) ms) (gone_one ids i on ns)
    ] refl
  where
    values_plain : (ms : List Model) → values_of (by_id ms) ≡ ms
    values_plain [] = refl
    values_plain (m ∷ ms) = ap (λ xs. m ∷ xs) (values_plain ms)

gone_all : (ids : List Identifier) (us : List Uploaded) (ms : List Model) → AllByRecursion (λ u. is_one_of ids u.interface.id ≡ true) us → without_models ids (with_new_models us ms) ≡ without_models ids ms
gone_all ids [] ms on = refl
gone_all ids (u ∷ us) ms on = gone_all ids us (with_model u.interface ms) on.1 ∙ gone_one ids u.interface on.0 ms

none_gone : (ids : List Identifier) (set : List Interface) (es : Records) → AllByRecursion (λ i. is_one_of ids i.id ≡ false) set → without_models ids (models_of set es) ≡ models_of set es
none_gone ids [] es off = refl
none_gone ids (i ∷ is) es off = ap (λ b. cond (not b) (seen es i ∷ without_models ids (models_of is es)) (without_models ids (models_of is es))) off.0 ∙ ap (λ ms. seen es i ∷ ms) (none_gone ids is es off.1)

-- ---- uploads that join
module _ (us : List Uploaded) (ids : List Identifier) (set : List Interface) (es : Records) (users : Users) (ws : Written) (bytes resolved : ℕ) (kept : IsKept set es users ws bytes resolved) (of : ids ≡ map id_of us) (absent : AreAbsent set us) (sound : IsSound set us) where
  pub joined_apart : HaveDistinctIds (map interface_of us)
  joined_apart = new_apart set us kept.ordered absent sound

  pub joined_rules : BreaksNoRule (with_uploads us set)
  joined_rules = with_sound set us kept.ordered absent sound kept.rules

  pub joined_whole : LacksNone (with_uploads us set)
  joined_whole = lacks_none (with_uploads us set) joined_rules

  pub joined_ordered : InOrder (with_uploads us set)
  joined_ordered = uploads_ordered us set kept.ordered absent joined_apart

  same_at : (q : Identifier) → interface_at q (with_uploads us set) ≡ or_else (interface_at q set) (interface_at q (map interface_of us))
  same_at q = sym (uploads_same us set absent joined_apart q) ∙ at_append q set (map interface_of us)

  pub joined_within : IsWithin set (with_uploads us set)
  joined_within p i found = same_at p ∙ ap (λ o. or_else o (interface_at p (map interface_of us))) found

  kept_at : (q : Identifier) → is_one_of (map id_of us) q ≡ false → interface_at q (with_uploads us set) ≡ interface_at q set
  kept_at q off = same_at q ∙ ap (or_else (interface_at q set)) (at_none us q off) ∙ or_none (interface_at q set)

  others_at : (q : Identifier) → is_one_of ids q ≡ false → interface_at q (with_uploads us set) ≡ interface_at q set
  others_at q off = kept_at q (sym (ap (λ xs. is_one_of xs q) of) ∙ off)

  pub back : without_interfaces ids (with_uploads us set) ≡ set
  back = rolled_back us ids set (with_uploads us set) of kept.ordered joined_ordered absent kept_at

  absent_id : (q : Identifier) → is_one_of ids q ≡ true → interface_at q set ≡ None
  absent_id q on = absent_one us set absent q (sym (ap (λ xs. is_one_of xs q) of) ∙ on)

  pub joined_free : AreFree (with_uploads us set) ids
  joined_free i k p there named on = by (is_one_of ids i.id) refl
    where
      by : (b : Bool) → is_one_of ids i.id ≡ b → is_one_of ids i.id ≡ true
      by true e = e
      by false e =
          let own : IsThere set i = sym (others_at i.id e) ∙ there in
          let all = lacks_none set kept.rules i k own in
          absurd (elim named [ inl h ↦ all.0 (p, h, absent_id p on) | inr h ↦ all.1 (p, h, absent_id p on) ])

  -- ---- taken back
  not_there : AllByRecursion (λ i. is_one_of ids i.id ≡ false) set
  not_there = all_placed (λ (i : Interface). is_one_of ids i.id ≡ false) set (λ k i at. by i (at_there k i at) (is_one_of ids i.id) refl)
    where
      at_there : (k : ℕ) (i : Interface) → slice_get set k ≡ Some i → IsThere set i
      at_there k i at = (listed set kept.ordered i).0 (contains_placed set i k at)

      by : (i : Interface) → IsThere set i → (b : Bool) → is_one_of ids i.id ≡ b → is_one_of ids i.id ≡ false
      by i there true e = absurd (none-some i (sym (absent_id i.id e) ∙ there))
      by i there false e = e

  pub back_fits : (grown new : Records) (more left : Users) → RecordsFit (with_uploads us set) grown more → ((q : Identifier) → record_at q new ≡ cond (is_one_of ids q) None (record_at q grown)) → ((t u : Identifier) → user_at t u left ≡ cond (is_one_of ids u) None (user_at t u more)) → RecordsFit set new left
  back_fits grown new more left fits gone out = subst (λ s. RecordsFit s new left) back (left_fits ids (with_uploads us set) grown new more left gone out fits)

  pub back_models : (grown new : Records) → models_of (with_uploads us set) grown ≡ with_new_models us (models_of set es) → ((q : Identifier) → record_at q new ≡ cond (is_one_of ids q) None (record_at q grown)) → models_of (without_interfaces ids (with_uploads us set)) new ≡ models_of set es
  back_models grown new view gone =
      left_models ids (with_uploads us set) grown new gone
      ∙ ap (without_models ids) view
      ∙ gone_all ids us (models_of set es) (all_placed (λ (u : Uploaded). is_one_of ids u.interface.id ≡ true) us (λ k u at. ap (λ xs. is_one_of xs u.interface.id) of ∙ one_at us k u at))
      ∙ none_gone ids set es not_there

  pub back_written : (grown again : Written) → ((q : Identifier) → is_one_of ids q ≡ false → written_at q grown ≡ written_at q ws) → ((q : Identifier) → written_at q again ≡ cond (is_one_of ids q) 0 (written_at q grown)) → AreWritten set again
  back_written grown again others gone q = gone q ∙ by (is_one_of ids q) refl
    where
      by : (b : Bool) → is_one_of ids q ≡ b → cond b 0 (written_at q grown) ≡ share_at set q
      by true e = sym (ap (share_in set) (absent_id q e))
      by false e = others q e ∙ kept.written q

  pub back_kept : (new : Records) (left : Users) (again : Written) → RecordsFit set new left → AreWritten set again → IsKept set new left again bytes resolved
  back_kept new left again fits all = record {
    rules = kept.rules;
    ordered = kept.ordered;
    declared = kept.declared;
    fits = fits;
    written = all;
    sum = kept.sum;
    total = kept.total;
    few = kept.few;
    small = kept.small;
    bounded = kept.bounded;
  }

  -- ---- what is written
  pub joined_there : AllByRecursion (λ id. IsSome (interface_at id (with_uploads us set))) ids
  joined_there =
      subst (AllByRecursion (λ id. IsSome (interface_at id (with_uploads us set)))) (sym of)
      (all_placed (λ (id : Identifier). IsSome (interface_at id (with_uploads us set))) (map id_of us)
      (λ k id at.
      let u = unmapped_at id_of us k id at in
      let here : interface_at id (with_uploads us set) ≡ Some u.0.interface = ap (λ (q : Identifier). interface_at q (with_uploads us set)) (sym u.2) ∙ upload_there us set absent joined_apart k u.0 u.1 in
      ap is_some here))

  share_more : (i : Interface) → IsThere set i → share_of set i ≡ share_of (with_uploads us set) i
  share_more = share_same set (with_uploads us set) joined_within kept.rules kept.ordered joined_rules joined_ordered

  pub joined_before : (q : Identifier) → is_one_of ids q ≡ false → written_at q ws ≡ share_at (with_uploads us set) q
  joined_before q off = kept.written q ∙ by (interface_at q set) refl ∙ sym (ap (share_in (with_uploads us set)) (others_at q off))
    where
      by : (o : Option Interface) → interface_at q set ≡ o → share_in set o ≡ share_in (with_uploads us set) o
      by None e = refl
      by (Some i) e = share_more i (stands set q i e)

  -- ---- sums
  at_upload : (u : Uploaded) → Contains us u → interface_at u.interface.id (with_uploads us set) ≡ Some u.interface
  at_upload u (k, low, is) = upload_there us set absent joined_apart k u (get_placed us u k low is)

  pub joined_length : length (with_uploads us set) ≡ length set + length us
  joined_length =
      length_sum (with_uploads us set)
      ∙ sum_with_all (λ i. 1) us set kept.ordered absent joined_apart
      ∙ ap (λ n. n + sum_by (λ (u : Uploaded). 1) us) (sym (length_sum set))
      ∙ ap (λ n. length set + n) (sym (length_sum us))

  pub joined_bytes : (grown : Records) (more : Users) → RecordsFit (with_uploads us set) grown more → sum_by text_bytes (with_uploads us set) ≡ bytes + recorded grown ids
  joined_bytes grown more fits =
      sum_with_all text_bytes us set kept.ordered absent joined_apart
      ∙ ap (λ n. n + sum_by (λ u. text_bytes u.interface) us) (sym kept.sum)
      ∙ ap (λ n. bytes + n)
      (sym (recorded_is (with_uploads us set) grown fits.records ids
      ∙ ap (bytes_of (with_uploads us set)) of
      ∙ sum_map (λ id. bytes_in (interface_at id (with_uploads us set))) id_of us
      ∙ sum_same (λ u. bytes_in (interface_at u.interface.id (with_uploads us set))) (λ u. text_bytes u.interface) us (λ u c. ap bytes_in (at_upload u c))))

  pub joined_shares : sum_by (share_of (with_uploads us set)) (with_uploads us set) ≡ resolved + sum_by (share_at (with_uploads us set)) ids
  joined_shares =
      sum_with_all (share_of (with_uploads us set)) us set kept.ordered absent joined_apart
      ∙ ap (λ n. n + sum_by (λ (u : Uploaded). share_of (with_uploads us set) u.interface) us)
      (sym (kept.total ∙ sum_same (share_of set) (share_of (with_uploads us set)) set (λ i c. share_more i ((listed set kept.ordered i).0 c))))
      ∙ ap (λ n. resolved + n)
      (sym (ap (sum_by (share_at (with_uploads us set))) of
      ∙ sum_map (share_at (with_uploads us set)) id_of us
      ∙ sum_same (λ u. share_at (with_uploads us set) u.interface.id) (λ u. share_of (with_uploads us set) u.interface) us (λ u c. ap (share_in (with_uploads us set)) (at_upload u c))))

  -- ---- the models with those that came
  pub length_joined : (grown : Records) (ms : List Model) → models_of (with_uploads us set) grown ≡ with_new_models us ms → length (with_new_models us ms) ≡ length set + length us
  length_joined grown ms view = sym (ap length view) ∙ length_seen (with_uploads us set) grown ∙ joined_length

  pub bytes_joined : (grown : Records) (more : Users) (ms : List Model) → RecordsFit (with_uploads us set) grown more → models_of (with_uploads us set) grown ≡ with_new_models us ms → model_bytes (with_new_models us ms) ≡ bytes + recorded grown ids
  bytes_joined grown more ms fits view = sym (ap model_bytes view) ∙ bytes_seen (with_uploads us set) grown ∙ joined_bytes grown more fits

  pub joined_declared : AllByRecursion (λ u. HasDeclaration u.interface) us → AllByRecursion HasDeclaration (with_uploads us set)
  joined_declared new = all_joined HasDeclaration us set kept.declared new

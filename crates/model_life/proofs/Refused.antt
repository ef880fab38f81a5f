-- What a judgement of a set says of the models.
use Rattle.std.proofs.Common.{◌≡◌, ℕ, ◌+◌, ◌<◌, List, [], ◌∷◌, map, take, length, false, None, refl, sym, ap, ◌∙◌, subst, Less, Equal, Greater, Result, Ok, Err}
use Rattle.std.specs.Prelude.{MatchResult}
use Rattle.std.specs.Ordering.{match_ordering}
use Rattle.std.specs.Map.{values_of}
use Rattle.std.specs.BTreeMap.{insert_entry}
use Rattle.std.proofs.lemmas.List.{length-map}
use Rattle.dt_base.specs.names.Grammar.{id_cmp}
use Rattle.dtdl_terms.specs.Sets.{keyed, interface_at, with_interface}
use Rattle.dtdl_terms.specs.declared.interface.Interface.{Interface}
use Rattle.dtdl_terms.specs.declared.uploaded.Uploaded.{Uploaded}
use Rattle.dtdl_terms.proofs.Keyed.{values-keyed}
use Rattle.extend_resolve.specs.Breaches.{IsFirstSetBreach, IsSound}
use Rattle.model_life.proofs.resolution.Changes.{all_map}
use Rattle.model_life.specs.sets.Changing.{with_uploads}
use Rattle.model_life.specs.Models.{Model, model_of, by_id, interfaces_of, model_at, with_model, with_new_models}
use Rattle.model_life.specs.Refusals.{AreNew, PassesFirst, RefusesUploads}
use Rattle.model_life.specs.Machinery.Judging.{AreAbsent, RefusesIn}
use Rattle.model_life.specs.Machinery.Keeping.{models_of, Written, Users, IsKept}
use Rattle.model_life.specs.declared.ends.AddEnd.{AddEnd}
use Rattle.model_life.specs.declared.ends.AddEnd.TheVariants as adds
use Rattle.model_life.proofs.Seen.{Records, seen_all, seen_none, seen_some}
use Rattle.model_life.proofs.Joining.{joined_length}

values_plain : (ms : List Model) → values_of (by_id ms) ≡ ms
values_plain [] = refl
values_plain (m ∷ ms) = ap (λ xs. m ∷ xs) (values_plain ms)

interfaces_one : (i : Interface) (ms : List Model) → interfaces_of (with_model i ms) ≡ with_interface i (interfaces_of ms)
interfaces_one i [] = refl
interfaces_one i (n ∷ ns) =
    let rest = ap interfaces_of (values_plain ns) ∙ sym (values-keyed (interfaces_of ns)) in
    elim (id_cmp i.id n.interface.id) as (λ o. interfaces_of (values_of (match_ordering o ((i.id, model_of i false) ∷ (n.interface.id, n) ∷ by_id ns) ((n.interface.id, model_of i false) ∷ by_id ns) ((n.interface.id, n) ∷ insert_entry id_cmp (by_id ns) i.id (model_of i false))))
    ≡ values_of (match_ordering o ((i.id, i) ∷ (n.interface.id, n.interface) ∷ keyed (interfaces_of ns)) ((n.interface.id, i) ∷ keyed (interfaces_of ns)) ((n.interface.id, n.interface) ∷ insert_entry id_cmp (keyed (interfaces_of ns)) i.id i))) [
      | Less ↦ ap (λ is. i ∷ n.interface ∷ is) rest
      | Equal ↦ ap (λ is. i ∷ is) rest
      | Greater ↦ ap (λ is. n.interface ∷ is) (interfaces_one i ns)
    ]

pub interfaces_with : (us : List Uploaded) (ms : List Model) → interfaces_of (with_new_models us ms) ≡ with_uploads us (interfaces_of ms)
interfaces_with [] ms = refl
interfaces_with (u ∷ us) ms = interfaces_with us (with_model u.interface ms) ∙ ap (with_uploads us) (interfaces_one u.interface ms)

module _ (us : List Uploaded) (set : List Interface) (es : Records) (users : Users) (ws : Written) (bytes resolved : ℕ) (ms : List Model) (view : models_of set es ≡ ms) (kept : IsKept set es users ws bytes resolved) where
  same_set : set ≡ interfaces_of ms
  same_set = sym (seen_all set es) ∙ ap interfaces_of view

  pub new_from : (vs : List Uploaded) → AreAbsent set vs → AreNew ms vs
  new_from vs absent = all_map (λ u. interface_at u.interface.id set ≡ None) (λ u. model_at u.interface.id ms ≡ None) vs (λ u h. seen_none u.interface.id set es ms view h) absent

  pub sound_from : IsSound set us → IsSound (interfaces_of ms) us
  sound_from sound = subst (λ s. IsSound s us) same_set sound

  many : AreAbsent set us → IsSound set us → length (with_new_models us ms) ≡ length set + length us
  many absent sound =
      sym (length-map (with_new_models us ms) (λ (m : Model). m.interface))
      ∙ ap length (interfaces_with us ms ∙ ap (with_uploads us) (sym same_set))
      ∙ joined_length us (map (λ (u : Uploaded). u.interface.id) us) set es users ws bytes resolved kept refl absent sound

  pub refused : (end : AddEnd) → RefusesIn set us end → RefusesUploads ms us end
  refused (adds.ModelExists index) (u, at, some, before) = (u, at, seen_some u.interface.id set es ms view some, new_from (take index us) before)
  refused (adds.ModelFault index spot rule) (absent, first) = (new_from us absent, subst (λ s. IsFirstSetBreach s us (record { index = index; rule = rule; spot = spot })) same_set first)
  refused (adds.Full limit) (absent, sound, is, over) = (new_from us absent, sound_from sound, subst (PassesFirst (with_new_models us ms)) (sym is) (subst (λ n. 10000 < n) (sym (many absent sound)) over))
  refused adds.OutOfMemory h = tt

pub match_more : {T E P Q : Type 0} (R : E → Type 0) (r : Result T E) → (P → Q) → MatchResult r (λ _. P) R → MatchResult r (λ _. Q) R
match_more R (Ok x) f h = f h
match_more R (Err e) f h = h

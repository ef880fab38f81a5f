-- What the asks on models are answered, from what is known of the models.
use Rattle.std.proofs.Common.{◌≡◌, ℕ, zero, suc, ◌++◌, List, [], ◌∷◌, map, Bool, true, false, true≢false, cond, Option, Some, None, IsSome, refl, sym, ap, ◌∙◌, subst, inl, inr, arith}
use Rattle.std.specs.Prelude.{slice_get}
use Rattle.std.specs.List.{AllByRecursion}
use Rattle.std.proofs.lemmas.Option.{none-some}
use Rattle.dt_base.specs.names.Grammar.{Identifier, dtmi_text, id_eq}
use Rattle.json_tree.specs.Values.{array, elements_of}
use Rattle.dtdl_terms.specs.Spots.{spot_text}
use Rattle.dtdl_terms.specs.declared.interface.Interface.{Interface}
use Rattle.dtdl_terms.specs.declared.limit.Limit.{Limit}
use Rattle.dtdl_terms.specs.declared.limit.Limit.TheVariants as limits
use Rattle.dtdl_terms.specs.declared.spot.Spot.{Spot}
use Rattle.dtdl_terms.specs.declared.uploaded.Uploaded.{Uploaded}
use Rattle.extend_resolve.specs.Breaches.{IsSound, IsFirstSetBreach, set_rule_code}
use Rattle.extend_resolve.specs.declared.rule.SetRule.{SetRule}
use Rattle.graph_asks.specs.Answers.{Answer, body, created, canon, done, refused}
use Rattle.graph_asks.specs.declared.ask.Ask.{Ask}
use Rattle.graph_asks.specs.declared.ask.Ask.TheVariants as asks
use Rattle.graph_asks.specs.declared.refusal.At.TheVariants as places
use Rattle.graph_asks.specs.declared.refusal.Refusal.{Refusal}
use Rattle.graph_asks.specs.declared.refusal.Refusal.TheVariants as refusals
use Rattle.model_life.specs.Models.{Model, model_of, interfaces_of, model_at, first_user, mark_one, with_mark, with_new_models as with_uploads}
use Rattle.model_life.specs.Sums.{AreWithinLimits, AllTake}
use Rattle.model_life.specs.Refusals.{AreNew, IsFirstThere, PassesFirst, RefusesMark}
use Rattle.model_life.specs.declared.ends.MarkEnd.{MarkEnd}
use Rattle.model_life.specs.declared.ends.MarkEnd.TheVariants as marks
use Rattle.graph_steps.specs.States.{State, set_of}
use Rattle.graph_steps.specs.ModelAsks.{model_value, mark_value, ModelExists, ModelFault, ModelsFull, TwinDoesNotFit, RefusesPutModels, RefusesDropModel}
use Rattle.graph_steps.specs.Steps.{Answers, changed, followed}
use Rattle.graph_machine.proofs.Ascending.{Ascend}
use Rattle.graph_machine.proofs.Uploads.{new_ones}

-- An ask that changes nothing leaves the state, whatever it is answered.
pub stays : (s : State) (ask : Ask) (answer : Answer) → changed s ask ≡ s → followed s ask answer ≡ s
stays s ask (body v) h = h
stays s ask (created v) h = h
stays s ask (canon bytes) h = h
stays s ask done h = h
stays s ask (refused r) h = refl

-- ---- one model
pub found : (s : State) (id : Identifier) (m : Model) → model_at id s.models ≡ Some m → Answers s (asks.GetModel id) (body (model_value m))
found s id m is = inr ((λ r h. none-some m (sym h.0 ∙ is)), (m, is, refl))

pub missing : (s : State) (id : Identifier) → model_at id s.models ≡ None → Answers s (asks.GetModel id) (refused (refusals.ModelNotFound (dtmi_text id)))
missing s id none = inl (refusals.ModelNotFound (dtmi_text id), (none, refl), refl)

-- ---- marks
pub some_none : {X : Type 0} (o : Option X) → IsSome o → o ≡ None → ⊥
some_none None h e = absurd (true≢false (sym h))
some_none (Some x) h e = none-some x (sym e)

pub marked : (s : State) (id : Identifier) (on : Bool) → IsSome (model_at id s.models) → Answers s (asks.Mark id on) done
marked s id on there = inr ((λ r h. some_none (model_at id s.models) there h.0), refl)

pub unmarked : (s : State) (id : Identifier) (on : Bool) → model_at id s.models ≡ None → Answers s (asks.Mark id on) (refused (refusals.ModelNotFound (dtmi_text id)))
unmarked s id on none = inl (refusals.ModelNotFound (dtmi_text id), (none, refl), refl)

pub mark_there : (s : State) (id : Identifier) (on : Bool) → Answers s (asks.Mark id on) done → model_at id s.models ≡ None → ⊥
mark_there s id on (inl (r, h, e)) none = absurd cc
mark_there s id on (inr (free, e)) none = free (refusals.ModelNotFound (dtmi_text id)) (none, refl)

same_one : (id : Identifier) (on : Bool) (m : Model) → (mark_one id on m).interface ≡ m.interface
same_one id on m = elim (id_eq id m.interface.id) as (λ b. (cond b (model_of m.interface on) m).interface ≡ m.interface) [ true ↦ refl | false ↦ refl ]

pub same_interfaces : (id : Identifier) (on : Bool) (ms : List Model) → interfaces_of (with_mark id on ms) ≡ interfaces_of ms
same_interfaces id on [] = refl
same_interfaces id on (m ∷ ms) = ap (λ i. i ∷ interfaces_of (with_mark id on ms)) (same_one id on m) ∙ ap (λ is. m.interface ∷ is) (same_interfaces id on ms)

pub not_found : (ms : List Model) (id : Identifier) (end : MarkEnd) → RefusesMark ms id end → model_at id ms ≡ None
not_found ms id marks.ModelNotFound h = h

-- ---- models that go
pub drop_free : (s : State) (id : Identifier) → IsSome (model_at id s.models) → first_user id s.models ≡ None → (r : Refusal) → RefusesDropModel s id r → ⊥
drop_free s id there free r (inl h) = some_none (model_at id s.models) there h.0
drop_free s id there free r (inr (before, (by, used, e))) = none-some by (sym free ∙ used)

pub dropped : (s : State) (id : Identifier) → IsSome (model_at id s.models) → first_user id s.models ≡ None → Answers s (asks.DropModel id) done
dropped s id there free = inr (drop_free s id there free, refl)

pub no_model : (s : State) (id : Identifier) → model_at id s.models ≡ None → Answers s (asks.DropModel id) (refused (refusals.ModelNotFound (dtmi_text id)))
no_model s id none = inl (refusals.ModelNotFound (dtmi_text id), inl (none, refl), refl)

pub in_use : (s : State) (id by : Identifier) → IsSome (model_at id s.models) → first_user id s.models ≡ Some by → Answers s (asks.DropModel id) (refused (refusals.ModelInUse (dtmi_text by)))
in_use s id by there used = inl (refusals.ModelInUse (dtmi_text by), inr ((λ q h. some_none (model_at id s.models) there h.0), (by, used, refl)), refl)

pub drop_there : (s : State) (id : Identifier) → Answers s (asks.DropModel id) done → model_at id s.models ≡ None → ⊥
drop_there s id (inl (r, h, e)) none = absurd cc
drop_there s id (inr (free, e)) none = free (refusals.ModelNotFound (dtmi_text id)) (inl (none, refl))

pub drop_unused : (s : State) (id : Identifier) → Answers s (asks.DropModel id) done → IsSome (model_at id s.models) → IsSome (first_user id s.models) → ⊥
drop_unused s id (inl (r, h, e)) there used = absurd cc
drop_unused s id (inr (free, e)) there used = by (first_user id s.models) used refl
  where
    by : (o : Option Identifier) → IsSome o → first_user id s.models ≡ o → ⊥
    by None h e = absurd (true≢false (sym h))
    by (Some user) h e = free (refusals.ModelInUse (dtmi_text user)) (inr ((λ q k. some_none (model_at id s.models) there k.0), (user, e, refl)))

-- ---- models that come
all_at : {X : Type 0} (P : X → Type 0) (xs : List X) (k : ℕ) (x : X) → AllByRecursion P xs → slice_get xs k ≡ Some x → P x
all_at P [] k x all is = absurd (none-some x is)
all_at P (y ∷ ys) zero x all is = let same : y ≡ x = cc in subst P same all.0
all_at P (y ∷ ys) (suc k) x all is = all_at P ys k x all.1 is

pub not_there : (s : State) (us : List Uploaded) → AreNew s.models us → (r : Refusal) → ModelExists s us r → ⊥
not_there s us new r (index, u, (v, at, there, before), is, e) =
    some_none (model_at v.interface.id s.models) there (all_at (λ (w : Uploaded). model_at w.interface.id s.models ≡ None) us index v new at)

pub not_broken : (s : State) (us : List Uploaded) → IsSound (set_of s) us → (r : Refusal) → ModelFault s us r → ⊥
not_broken s us sound r (b, u, first, is, e) = sound b first.breach

passes_none : (ms : List Model) → ((set : List Interface) (m n : ℕ) → AllTake set m → AllTake set n → m ≡ n) → AreWithinLimits ms → (limit : Limit) → PassesFirst ms limit → ⊥
passes_none ms one within limits.Models h = omega (arith, within.models, h)
passes_none ms one within limits.ModelBytes h = omega (arith, within.bytes, h.1)
passes_none ms one within limits.ResolvedBytes h =
    let same = one (interfaces_of ms) within.resolved.0 h.2.0 within.resolved.1 h.2.1 in
    omega (arith, same, within.resolved.2, h.2.2)
passes_none ms one within limits.TwinBytes h = h
passes_none ms one within limits.RelationshipBytes h = h
passes_none ms one within limits.Twins h = h
passes_none ms one within limits.Relationships h = h
passes_none ms one within limits.GraphBytes h = h

pub exists : (s : State) (us : List Uploaded) (index : ℕ) (u : Uploaded) → IsFirstThere s.models us index → slice_get us index ≡ Some u → RefusesPutModels s us (refusals.ModelExists (dtmi_text u.interface.id))
exists s us index u first is = inl (index, u, first, is, refl)

pub faulty : (s : State) (us : List Uploaded) (index : ℕ) (u : Uploaded) (rule : SetRule) (spot : Spot) → AreNew s.models us
    → IsFirstSetBreach (set_of s) us (record { index = index; rule = rule; spot = spot }) → slice_get us index ≡ Some u
    → RefusesPutModels s us (refusals.ModelFault (places.Pointer (u.base ++ spot_text u.parents_as_text spot)) (set_rule_code rule))
faulty s us index u rule spot new first is = inr (not_there s us new, inl (record { index = index; rule = rule; spot = spot }, u, first, is, refl))

pub full : (s : State) (us : List Uploaded) (limit : Limit) → AreNew s.models us → IsSound (set_of s) us → PassesFirst (with_uploads us s.models) limit → RefusesPutModels s us (refusals.Full limit)
full s us limit new sound passes = inr (not_there s us new, inr (not_broken s us sound, inl (limit, passes, refl)))

module _ (s : State) (us : List Uploaded) (one : (set : List Interface) (m n : ℕ) → AllTake set m → AllTake set n → m ≡ n) (new : AreNew s.models us) (sound : IsSound (set_of s) us)
    (within : AreWithinLimits (with_uploads us s.models)) where
  not_full : (r : Refusal) → ModelsFull s us r → ⊥
  not_full r (limit, passes, e) = passes_none (with_uploads us s.models) one within limit passes

  pub misfit : (r : Refusal) → TwinDoesNotFit s us r → RefusesPutModels s us r
  misfit r h = inr (not_there s us new, inr (not_broken s us sound, inr (not_full, h)))

  pub uploads_free : ((r : Refusal) → TwinDoesNotFit s us r → ⊥) → (r : Refusal) → RefusesPutModels s us r → ⊥
  uploads_free fit r (inl h) = not_there s us new r h
  uploads_free fit r (inr (a, inl h)) = not_broken s us sound r h
  uploads_free fit r (inr (a, inr (b, inl h))) = not_full r h
  uploads_free fit r (inr (a, inr (b, inr (c, h)))) = fit r h

pub brought : (s : State) (us : List Uploaded) → Ascend s.models → AreNew s.models us → ((r : Refusal) → RefusesPutModels s us r → ⊥) → Answers s (asks.PutModels us) (created (array (elements_of (map mark_value (with_uploads us [])))))
brought s us up new free = inr (free, ap (λ ns. created (array (elements_of (map mark_value ns)))) (sym (new_ones s.models us new up)))

-- ---- models that do not come, from what is known of the models alone
module _ (s : State) (ms : List Model) (us : List Uploaded) (same : s.models ≡ ms) where
  pub exists_in : (index : ℕ) (u : Uploaded) → IsFirstThere ms us index → slice_get us index ≡ Some u → RefusesPutModels s us (refusals.ModelExists (dtmi_text u.interface.id))
  exists_in index u first is = exists s us index u (subst (λ (x : List Model). IsFirstThere x us index) (sym same) first) is

  pub faulty_in : (index : ℕ) (u : Uploaded) (rule : SetRule) (spot : Spot) → AreNew ms us × IsFirstSetBreach (interfaces_of ms) us (record { index = index; rule = rule; spot = spot }) → slice_get us index ≡ Some u
      → RefusesPutModels s us (refusals.ModelFault (places.Pointer (u.base ++ spot_text u.parents_as_text spot)) (set_rule_code rule))
  faulty_in index u rule spot both is =
      let h = subst (λ (x : List Model). AreNew x us × IsFirstSetBreach (interfaces_of x) us (record { index = index; rule = rule; spot = spot })) (sym same) both in
      faulty s us index u rule spot h.0 h.1 is

  pub full_in : (limit : Limit) → AreNew ms us × IsSound (interfaces_of ms) us × PassesFirst (with_uploads us ms) limit → RefusesPutModels s us (refusals.Full limit)
  full_in limit all =
      let h = subst (λ (x : List Model). AreNew x us × IsSound (interfaces_of x) us × PassesFirst (with_uploads us x) limit) (sym same) all in
      full s us limit h.0 h.1 h.2

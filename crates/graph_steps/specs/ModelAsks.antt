-- The asks on models: what each is refused for, in order, what it is answered, and what it changes.
use Rattle.std.specs.Prelude.{◌≡◌, ℕ, ◌⊎◌, List, [], ◌∷◌, ◌++◌, map, Bool, true, false, Some, None, Contains, IsTrue, slice_get, codes}
use Rattle.std.specs.List.{filter}
use Rattle.std.specs.Option.{is_none}
use Rattle.std.specs.Ordering.{nat_cmp, is_lt}
use Rattle.std.specs.Cmp.Lexicographic.{slice_cmp}
use Rattle.dt_base.specs.names.Grammar.{Identifier, dtmi_text}
use Rattle.json_tree.specs.Values.{Json, text, truth, array, object, elements_of, no_members, member}
use Rattle.dtdl_terms.specs.Spots.{spot_text}
use Rattle.dtdl_terms.specs.declared.uploaded.Uploaded.{Uploaded}
use Rattle.dtdl_terms.specs.declared.limit.Limit.{Limit}
use Rattle.extend_resolve.specs.Breaches.{Breach, IsFirstSetBreach, set_rule_code}
use Rattle.canon_text.specs.Canonical.{interface_value, set_text}
use Rattle.graph_asks.specs.Answers.{Answer, body, created, canon}
use Rattle.graph_asks.specs.declared.refusal.At.TheVariants as places
use Rattle.graph_asks.specs.declared.refusal.Refusal.{Refusal}
use Rattle.graph_asks.specs.declared.refusal.Refusal.TheVariants as refusals
use Rattle.model_life.specs.Models.{Model, model_at, with_new_models as with_uploads, with_mark, without_models, first_user}
use Rattle.model_life.specs.Refusals.{IsFirstThere, PassesFirst}
use Rattle.graph_steps.specs.Refusals.{or_refuse, refuse_when}
use Rattle.graph_steps.specs.States.{State, Twin, Link, set_of, is_live, is_end, with_models}
use Rattle.graph_steps.specs.Typed.{TwinIsTyped, LinkIsTyped}

-- ---- trees
abbrev pub mark_value : Model → Json
mark_value m = object
    (member (codes "decommissioned") (truth m.decommissioned)
    (member (codes "id") (text (dtmi_text m.interface.id))
    no_members))

abbrev pub model_value : Model → Json
model_value m = object
    (member (codes "decommissioned") (truth m.decommissioned)
    (member (codes "id") (text (dtmi_text m.interface.id))
    (member (codes "model") (interface_value m.interface)
    no_members)))

abbrev pub list_value : List Model → Json
list_value ms = object (member (codes "value") (array (elements_of (map mark_value ms))) no_members)

-- ---- models come
abbrev pub after_uploads : State → List Uploaded → State
after_uploads s us = with_models (with_uploads us s.models) s

-- The models that come, in the order of their identifiers.
abbrev pub new_models : State → List Uploaded → List Model
new_models s us = filter (λ m. is_none (model_at m.interface.id s.models)) (with_uploads us s.models)

-- The twin would be live again, and would not fit its model, or be an end of a relationship that would not be well typed.
pub record WouldNotFit (s : State) (us : List Uploaded) (t : Twin) : Type 0 where
  pub there : Contains s.twins t
  pub before : is_live s t ≡ false
  pub after : is_live (after_uploads s us) t ≡ true
  pub ill : (TwinIsTyped (after_uploads s us) t → ⊥)
      ⊎ ((l : Link) × Contains s.links l × IsTrue (is_end t.id l) × (LinkIsTyped (after_uploads s us) l → ⊥))

abbrev pub ModelExists : State → List Uploaded → Refusal → Type 0
ModelExists s us r = (index : ℕ) × (u : Uploaded) × IsFirstThere s.models us index × (slice_get us index ≡ Some u)
    × (r ≡ refusals.ModelExists (dtmi_text u.interface.id))

-- The pointer is that of the place in the document.
abbrev pub ModelFault : State → List Uploaded → Refusal → Type 0
ModelFault s us r = (b : Breach) × (u : Uploaded) × IsFirstSetBreach (set_of s) us b × (slice_get us b.index ≡ Some u)
    × (r ≡ refusals.ModelFault (places.Pointer (u.base ++ spot_text u.parents_as_text b.spot)) (set_rule_code b.rule))

abbrev pub ModelsFull : State → List Uploaded → Refusal → Type 0
ModelsFull s us r = (limit : Limit) × PassesFirst (with_uploads us s.models) limit × (r ≡ refusals.Full limit)

-- The least such twin.
abbrev pub TwinDoesNotFit : State → List Uploaded → Refusal → Type 0
TwinDoesNotFit s us r = (t : Twin) × WouldNotFit s us t
    × ((other : Twin) → WouldNotFit s us other → IsTrue (is_lt (slice_cmp nat_cmp other.id t.id)) → ⊥)
    × (r ≡ refusals.TwinDoesNotFit t.id)

abbrev pub RefusesPutModels : State → List Uploaded → Refusal → Type 0
RefusesPutModels s us = or_refuse (ModelExists s us) (or_refuse (ModelFault s us) (or_refuse (ModelsFull s us) (TwinDoesNotFit s us)))

abbrev pub created_models : State → List Uploaded → Answer
created_models s us = created (array (elements_of (map mark_value (new_models s us))))

-- ---- one model
abbrev pub ModelNotFound : State → Identifier → Refusal → Type 0
ModelNotFound s id = refuse_when (model_at id s.models ≡ None) (refusals.ModelNotFound (dtmi_text id))

abbrev pub GivesModel : State → Identifier → Answer → Type 0
GivesModel s id answer = (m : Model) × (model_at id s.models ≡ Some m) × (answer ≡ body (model_value m))

abbrev pub after_mark : State → Identifier → Bool → State
after_mark s id on = with_models (with_mark id on s.models) s

-- The least other model that extends it directly or has a component of it.
abbrev pub ModelInUse : State → Identifier → Refusal → Type 0
ModelInUse s id r = (by : Identifier) × (first_user id s.models ≡ Some by) × (r ≡ refusals.ModelInUse (dtmi_text by))

abbrev pub RefusesDropModel : State → Identifier → Refusal → Type 0
RefusesDropModel s id = or_refuse (ModelNotFound s id) (ModelInUse s id)

abbrev pub after_drop : State → Identifier → State
after_drop s id = with_models (without_models (id ∷ []) s.models) s

-- ---- all models
abbrev pub listed_models : State → Answer
listed_models s = body (list_value s.models)

abbrev pub canonical_models : State → Answer
canonical_models s = canon (set_text (set_of s))

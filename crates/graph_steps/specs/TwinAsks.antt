-- The asks on twins and their components.
use Rattle.std.specs.Prelude.{◌≡◌, ℕ, ◌<◌, List, true, false, Option, Some, None, Result, Ok, Err, Contains, IsTrue, length, codes, bytes_eq}
use Rattle.std.specs.List.{find}
use Rattle.std.specs.Option.{IsSomeAnd}
use Rattle.dt_base.specs.names.Grammar.{Identifier, dtmi_text}
use Rattle.json_tree.specs.Values.{Json, object}
use Rattle.json_tree.specs.Pointers.{IsPointerOf}
use Rattle.json_tree.specs.Members.{members_in, value_in}
use Rattle.dtdl_terms.specs.declared.interface.Interface.{Interface}
use Rattle.dtdl_terms.specs.declared.limit.Limit.TheVariants as limits
use Rattle.rel_graph.specs.Edges.{key_cmp, key}
use Rattle.twin_patch.specs.Objects.{sorted_value, with_member}
use Rattle.twin_patch.specs.Operations.{Operation}
use Rattle.twin_patch.specs.Patched.{patched_from}
use Rattle.twin_value.specs.Breaches.{IsFirstBodyBreach, IsBodyBreach, IsTwinBreach, IsOuterBreach, twin_role_of}
use Rattle.twin_value.specs.Codes.{code_name}
use Rattle.twin_value.specs.Roles.{Role, body_member_role}
use Rattle.twin_value.specs.Twins.{property_members, component_members, without_metadata, model_text}
use Rattle.twin_value.specs.declared.code.BodyCode.{BodyCode}
use Rattle.std.specs.Ordering.{is_lt}
use Rattle.graph_asks.specs.Answers.{Answer, body}
use Rattle.graph_asks.specs.declared.refusal.At.TheVariants as places
use Rattle.graph_asks.specs.declared.refusal.Refusal.{Refusal}
use Rattle.graph_asks.specs.declared.refusal.Refusal.TheVariants as refusals
use Rattle.model_life.specs.Models.{Model}
use Rattle.graph_steps.specs.Inherited.{inherited}
use Rattle.graph_steps.specs.Refusals.{or_refuse, refuse_when}
use Rattle.graph_steps.specs.States.{State, Twin, Link, set_of, interface_of, twin_at, is_live, is_end, twin_value, twin_text, part_value, graph_bytes, with_twin}
use Rattle.graph_steps.specs.Typed.{LinkIsTyped}

-- ---- conditions that several asks have
abbrev pub TwinNotFound : State → List ℕ → Refusal → Type 0
TwinNotFound s id = refuse_when (twin_at id s ≡ None) (refusals.TwinNotFound id)

-- The twin is there, and its model is not.
abbrev pub Frozen : State → List ℕ → Refusal → Type 0
Frozen s id r = (t : Twin) × (twin_at id s ≡ Some t) × (is_live s t ≡ false) × (r ≡ refusals.Frozen (dtmi_text t.model))

-- The model of this text is marked, and the twin is new or of another one.
abbrev pub Decommissioned : State → List ℕ → List ℕ → Refusal → Type 0
Decommissioned s id model r = (m : Model) × Contains s.models m × (dtmi_text m.interface.id ≡ model) × (m.decommissioned ≡ true)
    × (IsSomeAnd (twin_at id s) (λ t. dtmi_text t.model ≡ model) → ⊥) × (r ≡ refusals.Decommissioned model)

-- The first breach of a tree, by the pointer to its place.
abbrev pub BodyFault : (List ℕ → BodyCode → Type 0) → Json → Refusal → Type 0
BodyFault Broken v r = (place pointer : List ℕ) × (code : BodyCode) × IsFirstBodyBreach Broken place code × IsPointerOf v place pointer
    × (r ≡ refusals.BodyFault (places.Pointer pointer) (code_name code))

-- The need of an operation is not met.
abbrev pub PatchFault : List Operation → Json → Refusal → Type 0
PatchFault os v r = (index : ℕ) × (patched_from 0 os v ≡ Err index) × (r ≡ refusals.PatchFault (codes "NoTarget") index)

-- The least relationship with the twin as an end that would not be well typed in the new state.
pub record WouldBeIll (new : State) (id : List ℕ) (l : Link) : Type 0 where
  pub there : Contains new.links l
  pub ends : IsTrue (is_end id l)
  pub ill : LinkIsTyped new l → ⊥

abbrev pub DoesNotFit : State → List ℕ → Refusal → Type 0
DoesNotFit new id r = (l : Link) × WouldBeIll new id l
    × ((other : Link) → WouldBeIll new id other → IsTrue (is_lt (key_cmp (key other) (key l))) → ⊥)
    × (r ≡ refusals.DoesNotFit l.id l.source)

-- The first of these limits that the new state passes, by the text that is new in it.
abbrev pub TwinFull : State → Twin → Refusal → Type 0
TwinFull new t = or_refuse (refuse_when (32768 < length (twin_text t)) (refusals.Full limits.TwinBytes))
    (or_refuse (refuse_when (100000 < length new.twins) (refusals.Full limits.Twins))
    (refuse_when (268435456 < graph_bytes new) (refusals.Full limits.GraphBytes)))

-- ---- the twin of a body
-- The twin of this id for which a body of the interface's twins stands.
abbrev pub twin_for : State → List ℕ → Interface → Json → Twin
twin_for s id i v = record {
  id = id;
  model = i.id;
  values = sorted_value (object (property_members (twin_role_of (inherited (set_of s) i)) v));
  parts = sorted_value (object (component_members (twin_role_of (inherited (set_of s) i)) v));
}

-- with the twin of a body, where the model is there
abbrev pub with_body : State → List ℕ → Option Interface → Json → State
with_body s id None v = s
with_body s id (Some i) v = with_twin (twin_for s id i v) s

-- ---- a twin comes, or takes the place of one with its id
abbrev pub RefusesBody : State → List ℕ → List ℕ → Json → Option Interface → Refusal → Type 0
RefusesBody s id model v None r = r ≡ refusals.ModelNotFound model
RefusesBody s id model v (Some i) r = or_refuse (Decommissioned s id model)
    (or_refuse (BodyFault (IsTwinBreach (inherited (set_of s) i) v) v)
    (or_refuse (DoesNotFit (with_body s id (Some i) v) id)
    (TwinFull (with_body s id (Some i) v) (twin_for s id i v)))) r

abbrev pub RefusesPutTwin : State → List ℕ → Identifier → Json → Refusal → Type 0
RefusesPutTwin s id model v = or_refuse (Frozen s id) (RefusesBody s id (dtmi_text model) v (interface_of s model))

abbrev pub after_put_twin : State → List ℕ → Identifier → Json → State
after_put_twin s id model v = with_body s id (interface_of s model) v

-- the twin of an id, as it is printed
abbrev pub GivesTwin : State → List ℕ → Answer → Type 0
GivesTwin s id answer = (t : Twin) × (twin_at id s ≡ Some t) × (answer ≡ body (twin_value t))

-- ---- a twin is patched
-- The interface whose identifier this text is.
abbrev pub interface_named : State → List ℕ → Option Interface
interface_named s model = find (λ i. bytes_eq (dtmi_text i.id) model) (set_of s)

abbrev pub interface_in : State → Json → Option Interface
interface_in s v = model_of (model_text v)
  where
    model_of : Option (List ℕ) → Option Interface
    model_of None = None
    model_of (Some model) = interface_named s model

abbrev pub RefusesNewBody : State → List ℕ → Json → Refusal → Type 0
RefusesNewBody s id v = or_refuse (BodyFault (IsOuterBreach v) v)
    (λ r. (model : List ℕ) × (model_text v ≡ Some model) × RefusesBody s id model v (interface_in s v) r)

abbrev pub RefusesPatched : State → List ℕ → Result Json ℕ → Refusal → Type 0
RefusesPatched s id (Err index) r = r ≡ refusals.PatchFault (codes "NoTarget") index
RefusesPatched s id (Ok v) r = RefusesNewBody s id v r

abbrev pub RefusesPatchOf : State → List Operation → Twin → Refusal → Type 0
RefusesPatchOf s os t = RefusesPatched s t.id (patched_from 0 os (twin_value t))

abbrev pub RefusesPatchTwin : State → List ℕ → List Operation → Refusal → Type 0
RefusesPatchTwin s id os = or_refuse (TwinNotFound s id) (or_refuse (Frozen s id) (λ r. (t : Twin) × (twin_at id s ≡ Some t) × RefusesPatchOf s os t r))

abbrev pub with_patched : State → List ℕ → Result Json ℕ → State
with_patched s id (Err index) = s
with_patched s id (Ok v) = with_body s id (interface_in s v) v

abbrev pub after_patch_twin : State → List ℕ → List Operation → State
after_patch_twin s id os = after (twin_at id s)
  where
    after : Option Twin → State
    after None = s
    after (Some t) = with_patched s id (patched_from 0 os (twin_value t))

-- ---- a twin goes
-- The least relationship with the twin as an end.
abbrev pub TwinInUse : State → List ℕ → Refusal → Type 0
TwinInUse s id r = (l : Link) × (find (is_end id) s.links ≡ Some l) × (r ≡ refusals.TwinInUse l.id l.source)

abbrev pub RefusesDropTwin : State → List ℕ → Refusal → Type 0
RefusesDropTwin s id = or_refuse (TwinNotFound s id) (TwinInUse s id)

-- ---- components
abbrev pub component_at : List ℕ → Twin → Option Json
component_at name t = value_in name t.parts

abbrev pub ComponentNotFound : State → List ℕ → List ℕ → Refusal → Type 0
ComponentNotFound s id name r = (t : Twin) × (twin_at id s ≡ Some t) × (component_at name t ≡ None) × (r ≡ refusals.ComponentNotFound name)

abbrev pub RefusesGetPart : State → List ℕ → List ℕ → Refusal → Type 0
RefusesGetPart s id name = or_refuse (TwinNotFound s id) (ComponentNotFound s id name)

abbrev pub GivesPart : State → List ℕ → List ℕ → Answer → Type 0
GivesPart s id name answer = (t : Twin) × (v : Json) × (twin_at id s ≡ Some t) × (component_at name t ≡ Some v) × (answer ≡ body (part_value v))

-- The role of a component of this name.
abbrev pub part_role_in : State → Interface → List ℕ → Role
part_role_in s i name = body_member_role (twin_role_of (inherited (set_of s) i)) name

-- The twin with these values as those of the component: the patched tree without its `$metadata`, sorted.
abbrev pub with_part : List ℕ → Json → Twin → Twin
with_part name v t = record {
  id = t.id;
  model = t.model;
  values = t.values;
  parts = object (with_member name (sorted_value (without_metadata v)) (members_in t.parts));
}

abbrev pub RefusesNewPart : State → List ℕ → Interface → Twin → Result Json ℕ → Refusal → Type 0
RefusesNewPart s name i t (Err index) r = r ≡ refusals.PatchFault (codes "NoTarget") index
RefusesNewPart s name i t (Ok v) r = or_refuse (BodyFault (IsBodyBreach (part_role_in s i name) v) v)
    (TwinFull (with_twin (with_part name v t) s) (with_part name v t)) r

-- Of a live twin that has the component.
pub record RefusesPartOf (s : State) (id name : List ℕ) (os : List Operation) (r : Refusal) : Type 0 where
  pub twin : Twin
  pub part : Json
  pub interface : Interface
  pub at : twin_at id s ≡ Some twin
  pub has : component_at name twin ≡ Some part
  pub live : interface_of s twin.model ≡ Some interface
  pub refuses : RefusesNewPart s name interface twin (patched_from 0 os (part_value part)) r

abbrev pub RefusesPatchPart : State → List ℕ → List ℕ → List Operation → Refusal → Type 0
RefusesPatchPart s id name os = or_refuse (TwinNotFound s id) (or_refuse (Frozen s id) (or_refuse (ComponentNotFound s id name) (RefusesPartOf s id name os)))

abbrev pub with_new_part : State → List ℕ → Twin → Result Json ℕ → State
with_new_part s name t (Err index) = s
with_new_part s name t (Ok v) = with_twin (with_part name v t) s

abbrev pub after_patch_part : State → List ℕ → List ℕ → List Operation → State
after_patch_part s id name os = after (twin_at id s)
  where
    patch : Twin → Option Json → State
    patch t None = s
    patch t (Some v) = with_new_part s name t (patched_from 0 os (part_value v))

    after : Option Twin → State
    after None = s
    after (Some t) = patch t (component_at name t)

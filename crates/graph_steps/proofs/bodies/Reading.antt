-- What is read of a body is what the graph's definitions say of it.
use Rattle.std.proofs.Common.{◌≡◌, ℕ, List, sym, ap, subst, ◌∙◌}
use Rattle.json_decimal.specs.Number.{Number}
use Rattle.json_tree.specs.Values.{Json, object, Members, HasDistinctKeys}
use Rattle.json_tree.specs.Sorting.{IsSortedOf}
use Rattle.json_tree.specs.View.{view}
use Rattle.json_tree.specs.declared.tree.Tree.{Tree}
use Rattle.dt_base.specs.names.Grammar.{Identifier}
use Rattle.dtdl_terms.specs.declared.interface.Interface.{Interface}
use Rattle.dtdl_terms.specs.declared.resolved.Resolved.{Resolved}
use Rattle.rel_graph.specs.declared.edge.Edge.{Edge}
use Rattle.twin_patch.specs.Objects.{sorted_value}
use Rattle.twin_patch.proofs.Sorted.{sorted_is}
use Rattle.twin_value.specs.Breaches.{IsBodyBreach, IsTwinBreach, IsLinkBreach, HasNoBreach, EndsBy, twin_role_of, link_role_of}
use Rattle.twin_value.specs.Roles.{body_member_role}
use Rattle.twin_value.specs.Twins.{IsLinkOf, property_members, component_members, without_metadata}
use Rattle.twin_value.specs.declared.end.BodyEnd.{BodyEnd}
use Rattle.graph_steps.specs.Inherited.{inherited}
use Rattle.graph_steps.specs.LinkAsks.{link_for}
use Rattle.graph_steps.specs.States.{State, Twin, Link, set_of}
use Rattle.graph_steps.specs.TwinAsks.{BodyFault, twin_for, part_role_in}
use Rattle.graph_steps.specs.bodies.Bodies.{IsModelIn, FailsBy}
use Rattle.graph_steps.specs.bodies.Kept.{IsKeptTwin, IsKeptLink, IsKeptPart}
use Rattle.graph_steps.specs.bodies.Machinery.Faults.{TellsFailure}
use Rattle.graph_steps.specs.declared.bodies.failure.BodyFailure.{BodyFailure}
use Rattle.graph_steps.proofs.bodies.Alike.{twin_alike, link_alike, part_alike, properties_alike, components_alike, payload_alike}
use Rattle.graph_steps.proofs.bodies.Keeping.{properties_distinct, components_distinct, payload_distinct, kept_twin, kept_link, bare_distinct, kept_bare}
use Rattle.graph_steps.proofs.bodies.Faults.{clear_moves, failure_tells}

-- ---- twins
abbrev pub read_twin_as : Resolved → List ℕ → Identifier → Json → Twin
read_twin_as r id model v = record {
  id = id;
  model = model;
  values = sorted_value (object (property_members (twin_role_of r) v));
  parts = sorted_value (object (component_members (twin_role_of r) v));
}

abbrev twin_of : List ℕ → Identifier → Json → Json → Twin
twin_of id model vs ps = record { id = id; model = model; values = vs; parts = ps }

-- The two objects that are read of a body.
abbrev AreRead : Resolved → Json → Json → Json → Type 0
AreRead r v vs ps = IsSortedOf (object (property_members (twin_role_of r) v)) vs × IsSortedOf (object (component_members (twin_role_of r) v)) ps

pub twin_as_read : (r : Resolved) (id : List ℕ) (v vs ps : Json) (model : Identifier) → HasDistinctKeys v → AreRead r v vs ps → twin_of id model vs ps ≡ read_twin_as r id model v
twin_as_read r id v vs ps model d are =
    ap (λ (x : Json). twin_of id model x ps) (sorted_is (object (property_members (twin_role_of r) v)) vs (properties_distinct r v d) are.0)
    ∙ ap (λ (x : Json). twin_of id model (sorted_value (object (property_members (twin_role_of r) v))) x)
    (sorted_is (object (component_members (twin_role_of r) v)) ps (components_distinct r v d) are.1)

pub twin_kept : (r : Resolved) (id : List ℕ) (v vs ps : Json) (model : Identifier) → HasDistinctKeys v → AreRead r v vs ps → IsKeptTwin (twin_of id model vs ps)
twin_kept r id v vs ps model d are = subst IsKeptTwin (sym (twin_as_read r id v vs ps model d are)) (kept_twin r v id model)

module _ (s : State) (i : Interface) (r : Resolved) (is : IsModelIn s i r) where
  as_twin_for : (id : List ℕ) (v : Json) → read_twin_as r id i.id v ≡ twin_for s id i v
  as_twin_for id v =
      ap (λ (ms : Members Number). twin_of id i.id (sorted_value (object ms)) (sorted_value (object (component_members (twin_role_of r) v)))) (properties_alike (set_of s) is.rules i is.there r is.resolved v)
      ∙ ap (λ (ms : Members Number). twin_of id i.id (sorted_value (object (property_members (twin_role_of (inherited (set_of s) i)) v))) (sorted_value (object ms)))
      (components_alike (set_of s) is.rules i is.there r is.resolved v)

  pub twin_is_for : (id : List ℕ) (v vs ps : Json) → HasDistinctKeys v → AreRead r v vs ps → twin_of id i.id vs ps ≡ twin_for s id i v
  twin_is_for id v vs ps d are = twin_as_read r id v vs ps i.id d are ∙ as_twin_for id v

  pub twin_clear : (v : Json) → HasNoBreach (IsTwinBreach r v) → HasNoBreach (IsTwinBreach (inherited (set_of s) i) v)
  twin_clear v = clear_moves (IsTwinBreach r v) (IsTwinBreach (inherited (set_of s) i) v) (twin_alike (set_of s) is.rules i is.there r is.resolved v)

  pub twin_fails : (v : Json) (end : BodyEnd) (failure : BodyFailure) → EndsBy (IsTwinBreach r v) end → TellsFailure v end failure → FailsBy (BodyFault (IsTwinBreach (inherited (set_of s) i) v) v) failure
  twin_fails v = failure_tells (IsTwinBreach r v) (IsTwinBreach (inherited (set_of s) i) v) (twin_alike (set_of s) is.rules i is.there r is.resolved v) v

-- ---- relationships
abbrev pub link_as : List ℕ → List ℕ → List ℕ → List ℕ → Json → Link
link_as source id name target payload = record { source = source; id = id; name = name; target = target; payload = payload }

pub link_as_read : (r : Resolved) (source id name target : List ℕ) (v : Json) (e : Edge Tree) → HasDistinctKeys v → IsLinkOf (link_role_of r v) source id v e
    → link_as e.source e.id name target (view e.payload) ≡ link_as source id name target (sorted_value (object (property_members (link_role_of r v) v)))
link_as_read r source id name target v e d is =
    ap (λ (x : List ℕ). link_as x e.id name target (view e.payload)) is.source
    ∙ ap (λ (x : List ℕ). link_as source x name target (view e.payload)) is.id
    ∙ ap (λ (x : Json). link_as source id name target x) (sorted_is (object (property_members (link_role_of r v) v)) (view e.payload) (payload_distinct r v d) is.payload)

pub link_kept : (r : Resolved) (source id name target : List ℕ) (v : Json) (e : Edge Tree) → HasDistinctKeys v → IsLinkOf (link_role_of r v) source id v e → IsKeptLink (link_as e.source e.id name target (view e.payload))
link_kept r source id name target v e d is = subst IsKeptLink (sym (link_as_read r source id name target v e d is)) (kept_link r v source id name target)

module _ (s : State) (i : Interface) (r : Resolved) (is : IsModelIn s i r) where
  pub link_is_for : (source id name target : List ℕ) (v : Json) (e : Edge Tree) → HasDistinctKeys v → IsLinkOf (link_role_of r v) source id v e
      → link_as e.source e.id name target (view e.payload) ≡ link_for s i source id name target v
  link_is_for source id name target v e d of =
      link_as_read r source id name target v e d of
      ∙ ap (λ (ms : Members Number). link_as source id name target (sorted_value (object ms))) (payload_alike (set_of s) is.rules i is.there r is.resolved v)

  pub link_clear : (v : Json) → HasNoBreach (IsLinkBreach r v) → HasNoBreach (IsLinkBreach (inherited (set_of s) i) v)
  link_clear v = clear_moves (IsLinkBreach r v) (IsLinkBreach (inherited (set_of s) i) v) (link_alike (set_of s) is.rules i is.there r is.resolved v)

  pub link_fails : (v : Json) (end : BodyEnd) (failure : BodyFailure) → EndsBy (IsLinkBreach r v) end → TellsFailure v end failure → FailsBy (BodyFault (IsLinkBreach (inherited (set_of s) i) v) v) failure
  link_fails v = failure_tells (IsLinkBreach r v) (IsLinkBreach (inherited (set_of s) i) v) (link_alike (set_of s) is.rules i is.there r is.resolved v) v

-- ---- components
pub part_as_read : (v w : Json) → HasDistinctKeys v → IsSortedOf (without_metadata v) w → w ≡ sorted_value (without_metadata v)
part_as_read v w d is = sorted_is (without_metadata v) w (bare_distinct v d) is

pub part_kept : (v w : Json) → HasDistinctKeys v → IsSortedOf (without_metadata v) w → IsKeptPart w
part_kept v w d is = subst IsKeptPart (sym (part_as_read v w d is)) (kept_bare v)

module _ (s : State) (i : Interface) (r : Resolved) (is : IsModelIn s i r) (name : List ℕ) where
  pub part_clear : (v : Json) → HasNoBreach (IsBodyBreach (body_member_role (twin_role_of r) name) v) → HasNoBreach (IsBodyBreach (part_role_in s i name) v)
  part_clear v = clear_moves (IsBodyBreach (body_member_role (twin_role_of r) name) v) (IsBodyBreach (part_role_in s i name) v) (part_alike (set_of s) is.rules i is.there r is.resolved name v)

  pub part_fails : (v : Json) (end : BodyEnd) (failure : BodyFailure) → EndsBy (IsBodyBreach (body_member_role (twin_role_of r) name) v) end → TellsFailure v end failure → FailsBy (BodyFault (IsBodyBreach (part_role_in s i name) v) v) failure
  part_fails v = failure_tells (IsBodyBreach (body_member_role (twin_role_of r) name) v) (IsBodyBreach (part_role_in s i name) v) (part_alike (set_of s) is.rules i is.there r is.resolved name v) v

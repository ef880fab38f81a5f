-- What a body without breach stands for, and what is printed of it.
use Rattle.std.specs.Prelude.{◌≡◌, ℕ, List, Bool, true, false, not, Option, Some, codes, bytes_eq, if◌then◌else◌}
use Rattle.std.specs.Option.{IsSomeAnd, option_and_then}
use Rattle.json_decimal.specs.Number.{Number}
use Rattle.json_tree.specs.Values.{Json, text, object, Members, no_members, member}
use Rattle.json_tree.specs.View.{view}
use Rattle.json_tree.specs.Sorting.{IsSortedOf}
use Rattle.json_tree.specs.declared.tree.Tree.{Tree}
use Rattle.json_tree.specs.Members.{value_in, members_in}
use Rattle.dt_base.specs.names.Grammar.{OwnDtmiText, dtmi_text}
use Rattle.rel_graph.specs.declared.edge.Edge.{Edge}
use Rattle.twin_value.specs.Roles.{Role, value, part_body, body_member_role}
use Rattle.twin_value.specs.Breaches.{text_under}
use Rattle.twin_value.specs.declared.twin.Twin.{Twin}

-- ---- parts of objects
-- The members whose key passes, each with what it becomes.
abbrev pub picked : (List ℕ → Bool) → (Json → Json) → Members Number → Members Number
picked passes becomes no_members = no_members
picked passes becomes (member key v ms) = if passes key then member key (becomes v) (picked passes becomes ms) else picked passes becomes ms

-- One list of members and another.
abbrev pub joined_members : Members Number → Members Number → Members Number
joined_members no_members ns = ns
joined_members (member key v ms) ns = member key v (joined_members ms ns)

abbrev pub any_key : List ℕ → Bool
any_key key = true

abbrev pub same_value : Json → Json
same_value v = v

-- ---- twins
-- A member is a property, or a component.
abbrev pub is_value_role : Role → Bool
is_value_role (value ns s) = true
is_value_role other = false

abbrev pub is_part_role : Role → Bool
is_part_role (part_body l cs) = true
is_part_role other = false

-- The members that are properties, and those that are components, of a body in a role.
abbrev pub property_members : Role → Json → Members Number
property_members r v = picked (λ key. is_value_role (body_member_role r key)) same_value (members_in v)

-- A component without its `$metadata`.
abbrev pub without_metadata : Json → Json
without_metadata v = object (picked (λ key. not (bytes_eq key (codes "$metadata"))) same_value (members_in v))

abbrev pub component_members : Role → Json → Members Number
component_members r v = picked (λ key. is_part_role (body_member_role r key)) without_metadata (members_in v)

-- The `$model` of a body's `$metadata`.
abbrev pub model_text : Json → Option (List ℕ)
model_text v = option_and_then (text_under (codes "$model")) (value_in (codes "$metadata") v)

-- The twin of this identifier for which a body in a role stands.
pub record IsTwinOf (body : Role) (given : List ℕ) (v : Json) (t : Twin) : Type 0 where
  pub id : t.id ≡ given
  pub model : IsSomeAnd (model_text v) (λ model. OwnDtmiText model t.model)
  pub values : IsSortedOf (object (property_members body v)) (view t.values)
  pub parts : IsSortedOf (object (component_members body v)) (view t.parts)

-- ---- relationships
-- The relationship of this source and identifier for which a body in a role stands.
pub record IsLinkOf (body : Role) (from given : List ℕ) (v : Json) (e : Edge Tree) : Type 0 where
  pub source : e.source ≡ from
  pub id : e.id ≡ given
  pub name : text_under (codes "$relationshipName") v ≡ Some e.name
  pub target : text_under (codes "$targetId") v ≡ Some e.target
  pub payload : IsSortedOf (object (property_members body v)) (view e.payload)

-- ---- printed
-- A component with an empty `$metadata`.
abbrev pub with_metadata : Json → Json
with_metadata v = object (member (codes "$metadata") (object no_members) (members_in v))

-- What is printed of a twin, and of a relationship, but for the order of members.
abbrev pub twin_json : Twin → Json
twin_json t = object
    (member (codes "$dtId") (text t.id)
    (member (codes "$metadata") (object (member (codes "$model") (text (dtmi_text t.model)) no_members))
    (joined_members (members_in (view t.values)) (picked any_key with_metadata (members_in (view t.parts))))))

abbrev pub link_json : Edge Tree → Json
link_json e = object
    (member (codes "$relationshipId") (text e.id)
    (member (codes "$relationshipName") (text e.name)
    (member (codes "$sourceId") (text e.source)
    (member (codes "$targetId") (text e.target)
    (members_in (view e.payload))))))

-- Rules on schemas: what a text in the role of a schema names, how deep schemas lie in one another, and whether one
-- reaches an array. Named schemas may lead back to themselves, so levels and reach are relations on numbers of steps.
use Rattle.std.specs.Prelude.{◌≡◌, ℕ, zero, suc, ◌⊎◌, List, [], ◌++◌, Option, Some, None, Contains, bytes_eq, find, filter_map, option_and_then, option_to_list, Bool, codes}
use Rattle.json_decimal.specs.Number.{Number}
use Rattle.json_tree.specs.Values.{Json, text, object, Members}
use Rattle.dtdl_terms.specs.Primitives.{primitive_name}
use Rattle.dtdl_terms.specs.declared.primitive.Primitive.{Primitive}
use Rattle.json_tree.specs.Members.{value_in, text_in, entries_in, members_in}
use Rattle.local_rules.specs.Roles.{type_of}
use Rattle.local_rules.specs.Repeats.{holds_some}
use Rattle.local_rules.specs.Identifiers.{OfText}
use Rattle.local_rules.specs.declared.role.Element.{Element}
use Rattle.local_rules.specs.declared.role.Element.TheVariants as element
use Rattle.local_rules.specs.declared.role.Position.TheVariants as position
use Rattle.local_rules.specs.declared.role.SchemaUse.{SchemaUse}
use Rattle.local_rules.specs.declared.role.SchemaUse.TheVariants as schema_use
use Rattle.local_rules.specs.declared.role.Role.{Role}
use Rattle.local_rules.specs.declared.role.Role.TheVariants as role

abbrev pub entries_under : Option Json → List Json
entries_under None = []
entries_under (Some v) = entries_in v

-- The elements under a key.
abbrev pub entries_at : List ℕ → Json → List Json
entries_at key v = entries_under (value_in key v)

-- The schemas that an interface names, by their `@id`: the entries of `schemas` that are objects with a text `@id`.
abbrev pub id_in : Json → Option (List ℕ)
id_in v = option_and_then text_in (value_in (codes "@id") v)

-- The first entry with this `@id`.
abbrev pub has_id : List ℕ → Json → Bool
has_id bytes v = holds_some (λ id. bytes_eq id bytes) (id_in v)

abbrev pub schema_named : Members Number → List ℕ → Option Json
schema_named ms bytes = find (has_id bytes) (entries_at (codes "schemas") (object ms))

abbrev pub IsPrimitiveName : List ℕ → Type 0
IsPrimitiveName bytes = (p : Primitive) × (primitive_name p ≡ bytes)

-- A text in the role of a schema is neither a primitive's name nor the `@id` of an entry of this interface's
-- `schemas`.
abbrev pub UnknownSchema : Members Number → Role → Json → Type 0
UnknownSchema ms r v = (part : SchemaUse) × (r ≡ role.Schema part)
    × OfText (λ bytes. (IsPrimitiveName bytes → ⊥) × (schema_named ms bytes ≡ None)) v

-- The kind of schema that an object is, where its `@type` names one.
abbrev pub schema_type : Json → Option Element
schema_type v = type_of position.Schema (members_in v)

-- The parts of a complex schema: the schema of an array's elements, of a map's key and value, of an object's fields.
abbrev pub parts_by : Option Element → Json → List Json
parts_by (Some element.Array) v = option_to_list (value_in (codes "elementSchema") v)
parts_by (Some element.Map) v = option_to_list (option_and_then (value_in (codes "schema")) (value_in (codes "mapKey") v))
    ++ option_to_list (option_and_then (value_in (codes "schema")) (value_in (codes "mapValue") v))
parts_by (Some element.Object) v = filter_map (value_in (codes "schema")) (entries_at (codes "fields") v)
parts_by other v = []

abbrev pub schema_parts : Json → List Json
schema_parts v = parts_by (schema_type v) v

-- The complex schema that a value is, or that it names: its type and its parts.
pub record IsComplex (ms : Members Number) (v : Json) (type : Element) (parts : List Json) : Type 0 where
  pub whole : Json
  pub leads : (v ≡ whole) ⊎ ((bytes : List ℕ) × (v ≡ text bytes) × (IsPrimitiveName bytes → ⊥) × (schema_named ms bytes ≡ Some whole))
  pub typed : schema_type whole ≡ Some type
  pub parted : schema_parts whole ≡ parts

-- The level is at least this number: a complex schema has 1 more than the greatest level of its parts, and 1 where it
-- has none; what is no complex schema, and names none, has level 0. One that leads back to itself has each level.
abbrev pub HasLevel : Members Number → ℕ → Json → Type 0
HasLevel ms zero v = Unit {0}
HasLevel ms (suc n) v = (type : Element) × (parts : List Json) × IsComplex ms v type parts
    × ((n ≡ 0) ⊎ ((part : Json) × Contains parts part × HasLevel ms n part))

-- An array is reached in at most so many steps.
abbrev pub ReachesWithin : Members Number → ℕ → Json → Type 0
ReachesWithin ms zero v = ⊥
ReachesWithin ms (suc n) v = (type : Element) × (parts : List Json) × IsComplex ms v type parts
    × ((type ≡ element.Array) ⊎ ((part : Json) × Contains parts part × ReachesWithin ms n part))

-- An outer schema lies in no other complex schema.
abbrev pub IsOuter : Role → Type 0
IsOuter r = (r ≡ role.Schema schema_use.Outer) ⊎ (r ≡ role.Schema schema_use.Property) ⊎ (r ≡ role.NamedSchema)

-- An outer schema has a level over 5 (DTDL v2, "Schemas").
abbrev pub TooDeep : Members Number → Role → Json → Type 0
TooDeep ms r v = IsOuter r × HasLevel ms 6 v

-- The schema of a property is or reaches an array (DTDL v2, "Property").
abbrev pub ArrayInProperty : Members Number → Role → Json → Type 0
ArrayInProperty ms r v = (r ≡ role.Schema schema_use.Property) × ((n : ℕ) × ReachesWithin ms n v)

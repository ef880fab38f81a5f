-- The role of each place of an interface, from the role of what it stands in and its key or position.
use Rattle.std.specs.Prelude.{◌≡◌, ℕ, List, [], ◌∷◌, ◌++◌, Option, Some, None, if◌then◌else◌, bytes_eq, codes, find, filter_map, option_and_then, option_to_list}
use Rattle.json_decimal.specs.Number.{Number}
use Rattle.json_tree.specs.Values.{Json, null, truth, number, text, array, object, Members}
use Rattle.json_tree.specs.Places.{IsPart, member_at}
use Rattle.json_tree.specs.Members.{list_of, value_at, text_in}
use Rattle.local_rules.specs.Tables.{key_text, required, optional, type_text, types_of}
use Rattle.local_rules.specs.declared.key.Key.{Key}
use Rattle.local_rules.specs.declared.key.Key.TheVariants as key
use Rattle.local_rules.specs.declared.role.Element.{Element}
use Rattle.local_rules.specs.declared.role.Element.TheVariants as element
use Rattle.local_rules.specs.declared.role.Position.{Position}
use Rattle.local_rules.specs.declared.role.Position.TheVariants as position
use Rattle.local_rules.specs.declared.role.PayloadUse.{PayloadUse}
use Rattle.local_rules.specs.declared.role.PayloadUse.TheVariants as payload
use Rattle.local_rules.specs.declared.role.SchemaUse.TheVariants as schema_use
use Rattle.local_rules.specs.declared.role.ValueSchema.{ValueSchema}
use Rattle.local_rules.specs.declared.role.ValueSchema.TheVariants as value_schemas
use Rattle.local_rules.specs.declared.role.Localized.TheVariants as localized
use Rattle.local_rules.specs.declared.role.Role.{Role}
use Rattle.local_rules.specs.declared.role.Role.TheVariants as role

-- ---- objects
-- The first of a position's types that has this text.
abbrev pub element_named : Position → List ℕ → Option Element
element_named p bytes = find (λ e. bytes_eq (type_text e) bytes) (types_of p)

-- The elements of a position that a value of `@type` names: a text, or the entries of a list.
abbrev pub named_by : Position → Json → Option Element
named_by p v = option_and_then (element_named p) (text_in v)

abbrev pub types_in : Position → Json → List Element
types_in p null = []
types_in p (truth b) = []
types_in p (number n) = []
types_in p (text bytes) = option_to_list (element_named p bytes)
types_in p (array vs) = filter_map (named_by p) (list_of vs)
types_in p (object ms) = []

abbrev pub only : {X : Type 0} → List X → Option X
only [] = None
only (x ∷ []) = Some x
only (x ∷ y ∷ xs) = None

-- A value of `@type` names a role where it is the type's text or a list in which exactly one entry is a type of the
-- position.
abbrev pub type_in : Position → Json → Option Element
type_in p v = only (types_in p v)

abbrev pub type_of : Position → Members Number → Option Element
type_of p ms = option_and_then (type_in p) (value_at (codes "@type") ms)

-- What stands in this role as an object. An interface has its role from the document, an entry of `properties` is a
-- property, whatever their `@type` names; an entry of `contents` and a schema are what their `@type` names.
abbrev pub element_of : Role → Members Number → Option Element
element_of role.Interface ms = Some element.Interface
element_of role.Content ms = type_of position.Content ms
element_of role.RelationshipProperty ms = Some element.Property
element_of (role.Payload part) ms = Some element.Payload
element_of role.Field ms = Some element.Payload
element_of (role.EnumEntry k) ms = Some element.EnumEntry
element_of role.NamedSchema ms = type_of position.Schema ms
element_of (role.Schema part) ms = type_of position.Schema ms
element_of other ms = None

-- The position of the `@type` of an object in this role.
abbrev pub position_of : Role → Position
position_of role.Interface = position.Interface
position_of role.Content = position.Content
position_of role.RelationshipProperty = position.Property
position_of role.NamedSchema = position.Schema
position_of (role.Schema part) = position.Schema
position_of other = position.Free

-- The keys of an element, and the one that a text is.
abbrev pub keys_of : Element → List Key
keys_of e = required e ++ optional e

abbrev pub key_of : Element → List ℕ → Option Key
key_of e bytes = find (λ k. bytes_eq (key_text k) bytes) (keys_of e)

-- What `valueSchema` asks of the values of an enum.
abbrev pub schema_of_values_named : Option (List ℕ) → ValueSchema
schema_of_values_named None = value_schemas.Neither
schema_of_values_named (Some bytes) = if bytes_eq bytes (codes "integer") then value_schemas.Integer else if bytes_eq bytes (codes "string") then value_schemas.String else value_schemas.Neither

abbrev pub schema_of_values : Members Number → ValueSchema
schema_of_values ms = schema_of_values_named (option_and_then text_in (value_at (codes "valueSchema") ms))

abbrev pub enum_value_role : Role → Role
enum_value_role (role.EnumEntry k) = role.EnumValue k
enum_value_role other = role.EnumValue value_schemas.Neither

abbrev pub content_schema_role : Element → Role
content_schema_role element.Component = role.InterfaceReference
content_schema_role element.Property = role.Schema schema_use.Property
content_schema_role other = role.Schema schema_use.Outer

abbrev pub payload_schema_role : PayloadUse → Role
payload_schema_role payload.Command = role.Schema schema_use.Outer
payload_schema_role payload.MapKey = role.Schema schema_use.MapKey
payload_schema_role payload.MapValue = role.Schema schema_use.Inner

abbrev pub schema_role : Role → Element → Role
schema_role role.Content e = content_schema_role e
schema_role role.RelationshipProperty e = role.Schema schema_use.Property
schema_role (role.Payload part) e = payload_schema_role part
schema_role other e = role.Schema schema_use.Inner

abbrev pub id_role : Element → Role
id_role element.Interface = role.InterfaceId
id_role other = role.ElementId

-- The role of the value under a key of an element that stands in a role.
abbrev pub key_role : Role → Element → Members Number → Key → Role
key_role r e ms key.Context = role.Context
key_role r e ms key.Id = id_role e
key_role r e ms key.Type = role.Type (position_of r)
key_role r e ms key.Comment = role.Comment
key_role r e ms key.CommandType = role.CommandType
key_role r e ms key.Contents = role.Contents
key_role r e ms key.Description = role.Localized localized.Description
key_role r e ms key.DisplayName = role.Localized localized.DisplayName
key_role r e ms key.ElementSchema = role.Schema schema_use.Inner
key_role r e ms key.EnumValue = enum_value_role r
key_role r e ms key.EnumValues = role.EnumValues (schema_of_values ms)
key_role r e ms key.Extends = role.Extends
key_role r e ms key.Fields = role.Fields
key_role r e ms key.MapKey = role.Payload payload.MapKey
key_role r e ms key.MapValue = role.Payload payload.MapValue
key_role r e ms key.MaxMultiplicity = role.MaxMultiplicity
key_role r e ms key.MinMultiplicity = role.MinMultiplicity
key_role r e ms key.Name = role.Name
key_role r e ms key.Properties = role.Properties
key_role r e ms key.Request = role.Payload payload.Command
key_role r e ms key.Response = role.Payload payload.Command
key_role r e ms key.Schema = schema_role r e
key_role r e ms key.Schemas = role.Schemas
key_role r e ms key.Target = role.InterfaceReference
key_role r e ms key.Unit = role.Unit
key_role r e ms key.ValueSchema = role.ValueSchema
key_role r e ms key.Writable = role.Writable

abbrev pub role_of_key : Role → Element → Members Number → Option Key → Role
role_of_key r e ms None = role.Unknown
role_of_key r e ms (Some k) = key_role r e ms k

-- Where the `@type` of an entry of `contents` or `schemas`, or of a schema, names no role, it alone is judged.
abbrev pub type_alone : Role → List ℕ → Option Role
type_alone r bytes = if bytes_eq bytes (codes "@type") then Some (role.Type (position_of r)) else None

abbrev pub untyped_role : Role → List ℕ → Option Role
untyped_role role.Content bytes = type_alone role.Content bytes
untyped_role role.NamedSchema bytes = type_alone role.NamedSchema bytes
untyped_role (role.Schema part) bytes = type_alone (role.Schema part) bytes
untyped_role (role.Localized which) bytes = Some (role.LocalizedText which)
untyped_role other bytes = None

abbrev pub element_member : Role → Members Number → Option Element → List ℕ → Option Role
element_member r ms None bytes = untyped_role r bytes
element_member r ms (Some e) bytes = Some (role_of_key r e ms (key_of e bytes))

-- The role of the member with a key in an object that stands in a role.
abbrev pub member_role : Role → Members Number → List ℕ → Option Role
member_role r ms bytes = element_member r ms (element_of r ms) bytes

-- ---- entries of lists
-- The role of each entry of a list that stands in a role.
abbrev pub entry_role : Role → Option Role
entry_role role.Contents = Some role.Content
entry_role role.Schemas = Some role.NamedSchema
entry_role role.Properties = Some role.RelationshipProperty
entry_role role.Fields = Some role.Field
entry_role (role.EnumValues k) = Some (role.EnumEntry k)
entry_role role.Context = Some role.ListedText
entry_role (role.Type p) = Some role.ListedText
entry_role role.Extends = Some role.Parent
entry_role other = None

-- The role of a part of a value that stands in a role.
abbrev pub part_role : Role → Json → ℕ → Option Role
part_role r null i = None
part_role r (truth b) i = None
part_role r (number n) i = None
part_role r (text bytes) i = None
part_role r (array vs) i = entry_role r
part_role r (object ms) i = option_and_then (λ m. member_role r ms m.0) (member_at ms i)

-- At a place of a value that stands in the first role stands this part, in the second role.
abbrev pub HasRole : Role → Json → List ℕ → Role → Json → Type 0
HasRole r v [] q w = (r ≡ q) × (v ≡ w)
HasRole r v (i ∷ place) q w = (s : Role) × (part : Json) × IsPart v i part × (part_role r v i ≡ Some s) × HasRole s part place q w

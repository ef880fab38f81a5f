-- The tables of the kinds of objects: their keys, and the types that `@type` may name (DTDL v2, the tables of
-- members; that `@type` is required everywhere but in payloads and enum entries is DTDL's own too).
use Rattle.std.specs.Prelude.{ℕ, List, [], ◌∷◌, ◌++◌, codes}
use Rattle.local_rules.specs.declared.key.Key.{Key}
use Rattle.local_rules.specs.declared.key.Key.TheVariants as key
use Rattle.local_rules.specs.declared.role.Element.{Element}
use Rattle.local_rules.specs.declared.role.Element.TheVariants as element
use Rattle.local_rules.specs.declared.role.Position.{Position}
use Rattle.local_rules.specs.declared.role.Position.TheVariants as position

abbrev pub key_text : Key → List ℕ
key_text key.Context = codes "@context"
key_text key.Id = codes "@id"
key_text key.Type = codes "@type"
key_text key.Comment = codes "comment"
key_text key.CommandType = codes "commandType"
key_text key.Contents = codes "contents"
key_text key.Description = codes "description"
key_text key.DisplayName = codes "displayName"
key_text key.ElementSchema = codes "elementSchema"
key_text key.EnumValue = codes "enumValue"
key_text key.EnumValues = codes "enumValues"
key_text key.Extends = codes "extends"
key_text key.Fields = codes "fields"
key_text key.MapKey = codes "mapKey"
key_text key.MapValue = codes "mapValue"
key_text key.MaxMultiplicity = codes "maxMultiplicity"
key_text key.MinMultiplicity = codes "minMultiplicity"
key_text key.Name = codes "name"
key_text key.Properties = codes "properties"
key_text key.Request = codes "request"
key_text key.Response = codes "response"
key_text key.Schema = codes "schema"
key_text key.Schemas = codes "schemas"
key_text key.Target = codes "target"
key_text key.Unit = codes "unit"
key_text key.ValueSchema = codes "valueSchema"
key_text key.Writable = codes "writable"

-- The keys that an element must have.
abbrev pub required : Element → List Key
required element.Interface = key.Context ∷ key.Id ∷ key.Type ∷ []
required element.Telemetry = key.Type ∷ key.Name ∷ key.Schema ∷ []
required element.Property = key.Type ∷ key.Name ∷ key.Schema ∷ []
required element.Command = key.Type ∷ key.Name ∷ []
required element.Relationship = key.Type ∷ key.Name ∷ []
required element.Component = key.Type ∷ key.Name ∷ key.Schema ∷ []
required element.Payload = key.Name ∷ key.Schema ∷ []
required element.Array = key.Type ∷ key.ElementSchema ∷ []
required element.Enumeration = key.Type ∷ key.EnumValues ∷ key.ValueSchema ∷ []
required element.EnumEntry = key.EnumValue ∷ key.Name ∷ []
required element.Map = key.Type ∷ key.MapKey ∷ key.MapValue ∷ []
required element.Object = key.Type ∷ key.Fields ∷ []

-- The keys that every element but an interface may have.
abbrev pub common : List Key
common = key.Id ∷ key.Comment ∷ key.Description ∷ key.DisplayName ∷ []

-- The keys that an element may have.
abbrev pub optional : Element → List Key
optional element.Interface = key.Comment ∷ key.Contents ∷ key.Description ∷ key.DisplayName ∷ key.Extends ∷ key.Schemas ∷ []
optional element.Telemetry = common ++ key.Unit ∷ []
optional element.Property = common ++ key.Unit ∷ key.Writable ∷ []
optional element.Command = common ++ key.CommandType ∷ key.Request ∷ key.Response ∷ []
optional element.Relationship = common ++ key.MaxMultiplicity ∷ key.MinMultiplicity ∷ key.Properties ∷ key.Target ∷ key.Writable ∷ []
optional element.Component = common
optional element.Payload = common ++ key.Type ∷ []
optional element.Array = common
optional element.Enumeration = common
optional element.EnumEntry = common ++ key.Type ∷ []
optional element.Map = common
optional element.Object = common

-- The text by which `@type` names an element. Payloads and enum entries have none.
abbrev pub type_text : Element → List ℕ
type_text element.Interface = codes "Interface"
type_text element.Telemetry = codes "Telemetry"
type_text element.Property = codes "Property"
type_text element.Command = codes "Command"
type_text element.Relationship = codes "Relationship"
type_text element.Component = codes "Component"
type_text element.Payload = []
type_text element.Array = codes "Array"
type_text element.Enumeration = codes "Enum"
type_text element.EnumEntry = []
type_text element.Map = codes "Map"
type_text element.Object = codes "Object"

-- The types of a position.
abbrev pub types_of : Position → List Element
types_of position.Interface = element.Interface ∷ []
types_of position.Content = element.Telemetry ∷ element.Property ∷ element.Command ∷ element.Relationship ∷ element.Component ∷ []
types_of position.Property = element.Property ∷ []
types_of position.Schema = element.Array ∷ element.Enumeration ∷ element.Map ∷ element.Object ∷ []
types_of position.Free = []

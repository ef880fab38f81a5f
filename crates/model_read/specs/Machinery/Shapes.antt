-- What the readers ask of a value: that it stands in a role of a document that breaks no local rule, and so has the
-- shape that its record needs. A rule that refuses what is none of a grammar leaves that the value cannot be none of
-- it, which is written so: `CanBe`.
use Rattle.std.specs.Prelude.{◌≡◌, ◌≢◌, ℕ, ◌⊎◌, List, Bool, Option, Some, None, codes}
use Rattle.json_decimal.specs.Number.{Number}
use Rattle.json_tree.specs.Values.{Json, truth, text, array, object, Elements, Members}
use Rattle.json_tree.specs.Places.{element_at, member_at}
use Rattle.dt_base.specs.names.Grammar.{Identifier}
use Rattle.json_tree.specs.Members.{list_of, value_at}
use Rattle.local_rules.specs.Roles.{HasRole, type_of}
use Rattle.local_rules.specs.Types.{IsNameValue, MayHaveBeside, further}
use Rattle.local_rules.specs.Quantities.{IsInteger32, IsStringValue, IsMultiplicity}
use Rattle.local_rules.specs.Levels.{IsPrimitiveName}
use Rattle.local_rules.specs.Breaches.{BreaksAlone}
use Rattle.local_rules.specs.declared.rule.LocalRule.{LocalRule}
use Rattle.local_rules.specs.declared.role.Element.{Element}
use Rattle.local_rules.specs.declared.role.Element.TheVariants as element_kind
use Rattle.local_rules.specs.declared.role.PayloadUse.{PayloadUse}
use Rattle.local_rules.specs.declared.role.Position.{Position}
use Rattle.local_rules.specs.declared.role.Position.TheVariants as position
use Rattle.local_rules.specs.declared.role.Role.{Role}
use Rattle.local_rules.specs.declared.role.Role.TheVariants as role
use Rattle.local_rules.specs.declared.role.SchemaUse.{SchemaUse}
use Rattle.local_rules.specs.declared.role.ValueSchema.{ValueSchema}
use Rattle.local_rules.specs.declared.role.ValueSchema.TheVariants as value_schemas
use Rattle.local_rules.specs.Declarations.{IsIdentifier}

-- It is not so that it is none.
abbrev pub CanBe : Type 0 → Type 0
CanBe P = (P → ⊥) → ⊥

-- ---- values by themselves
abbrev pub IsObject : Json → Type 0
IsObject v = (ms : Members Number) × (v ≡ object ms)

abbrev pub IsArray : Json → Type 0
IsArray v = (vs : Elements Number) × (v ≡ array vs)

abbrev pub IsTruth : Json → Type 0
IsTruth v = (b : Bool) × (v ≡ truth b)

abbrev pub CanBeId : Json → Type 0
CanBeId v = CanBe ((id : Identifier) × IsIdentifier v id)

abbrev pub CanBeName : Json → Type 0
CanBeName v = CanBe (IsNameValue v)

abbrev pub CanBeMultiplicity : Json → Type 0
CanBeMultiplicity v = CanBe (IsMultiplicity v)

abbrev pub CanBeEnumValue : Json → Type 0
CanBeEnumValue v = CanBe (IsInteger32 v ⊎ IsStringValue v)

abbrev pub CanBeValueSchema : Json → Type 0
CanBeValueSchema v = CanBe ((v ≡ text (codes "string")) ⊎ (v ≡ text (codes "integer")))

-- Each entry of a list is such a value.
abbrev pub EachIs : (Json → Type 0) → Elements Number → Type 0
EachIs P vs = (i : ℕ) (v : Json) → element_at vs i ≡ Some v → P v

abbrev pub IsListOf : (Json → Type 0) → Json → Type 0
IsListOf P v = (vs : Elements Number) × (v ≡ array vs) × EachIs P vs

-- The value under a key, of which there may be none, is such a value.
abbrev pub MayHave : (Json → Type 0) → List ℕ → Members Number → Type 0
MayHave P key ms = (v : Json) → value_at key ms ≡ Some v → P v

abbrev pub HasMember : (Json → Type 0) → List ℕ → Members Number → Type 0
HasMember P key ms = (value_at key ms ≢ None) × MayHave P key ms

-- A text, or an object of texts.
abbrev pub HaveStrings : Members Number → Type 0
HaveStrings ms = (i : ℕ) (key : List ℕ) (v : Json) → member_at ms i ≡ Some (key, v) → IsStringValue v

abbrev pub IsWords : Json → Type 0
IsWords v = IsStringValue v ⊎ ((ms : Members Number) × (v ≡ object ms) × HaveStrings ms)

-- A list `@type` has at most one entry beside the type, which is a name.
abbrev pub CanBeTypes : Position → Json → Type 0
CanBeTypes p v = (vs : Elements Number) → v ≡ array vs → CanBe (MayHaveBeside element_kind.Property (further p (list_of vs)))

-- The parents of an interface: one, or a list of them.
abbrev pub IsParents : Json → Type 0
IsParents (array vs) = EachIs CanBeId vs
IsParents v = CanBeId v

-- ---- values in their roles
-- A text in the role of a schema that is no primitive's name can be an identifier.
abbrev pub NamesSchema : Role → Json → Type 0
NamesSchema r v = (part : SchemaUse) (bytes : List ℕ) → r ≡ role.Schema part → v ≡ text bytes → (IsPrimitiveName bytes → ⊥) → CanBeId v

-- In a value that stands in this role, and in its parts, no rule is broken that the role and the value alone decide,
-- and each schema is named that is used.
pub record IsValid (r : Role) (v : Json) : Type 0 where
  pub alone : (place : List ℕ) (q : Role) (w : Json) → HasRole r v place q w → (broken : LocalRule) → BreaksAlone broken q w → ⊥
  pub named : (place : List ℕ) (q : Role) (w : Json) → HasRole r v place q w → NamesSchema q w

abbrev pub IsValidSchema : Json → Type 0
IsValidSchema v = IsValid role.NamedSchema v ⊎ ((part : SchemaUse) × IsValid (role.Schema part) v)

abbrev pub IsValidPayload : Json → Type 0
IsValidPayload v = ((part : PayloadUse) × IsValid (role.Payload part) v) ⊎ IsValid role.Field v

abbrev pub IsValidEnumEntry : Json → Type 0
IsValidEnumEntry v = (k : ValueSchema) × (k ≢ value_schemas.Neither) × IsValid (role.EnumEntry k) v

abbrev pub IsValidContent : Json → Type 0
IsValidContent v = IsValid role.Content v

abbrev pub IsValidProperty : Json → Type 0
IsValidProperty v = IsValid role.RelationshipProperty v

abbrev pub IsValidInterface : Json → Type 0
IsValidInterface v = IsValid role.Interface v

-- ---- the shapes of elements, by their members
pub record CommonShape (ms : Members Number) : Type 0 where
  pub id : MayHave CanBeId (codes "@id") ms
  pub comment : MayHave IsStringValue (codes "comment") ms
  pub description : MayHave IsWords (codes "description") ms
  pub display_name : MayHave IsWords (codes "displayName") ms

pub record EnumEntryShape (ms : Members Number) : Type 0 where
  pub name : HasMember CanBeName (codes "name") ms
  pub common : CommonShape ms
  pub value : HasMember CanBeEnumValue (codes "enumValue") ms

pub record ArrayShape (ms : Members Number) : Type 0 where
  pub common : CommonShape ms
  pub element : HasMember IsValidSchema (codes "elementSchema") ms

pub record EnumerationShape (ms : Members Number) : Type 0 where
  pub common : CommonShape ms
  pub value_schema : HasMember CanBeValueSchema (codes "valueSchema") ms
  pub values : HasMember (IsListOf IsValidEnumEntry) (codes "enumValues") ms

pub record MapShape (ms : Members Number) : Type 0 where
  pub common : CommonShape ms
  pub key : HasMember IsValidPayload (codes "mapKey") ms
  pub value : HasMember IsValidPayload (codes "mapValue") ms

pub record ObjectShape (ms : Members Number) : Type 0 where
  pub common : CommonShape ms
  pub fields : HasMember (IsListOf IsValidPayload) (codes "fields") ms

pub record PayloadShape (ms : Members Number) : Type 0 where
  pub name : HasMember CanBeName (codes "name") ms
  pub common : CommonShape ms
  pub schema : HasMember IsValidSchema (codes "schema") ms

-- The shape of a schema, by what its `@type` names.
abbrev pub SchemaShape : Option Element → Members Number → Type 0
SchemaShape (Some element_kind.Array) ms = ArrayShape ms
SchemaShape (Some element_kind.Enumeration) ms = EnumerationShape ms
SchemaShape (Some element_kind.Map) ms = MapShape ms
SchemaShape (Some element_kind.Object) ms = ObjectShape ms
SchemaShape other ms = ⊥

pub record TelemetryShape (p : Position) (ms : Members Number) : Type 0 where
  pub schema : HasMember IsValidSchema (codes "schema") ms
  pub semantic : MayHave (CanBeTypes p) (codes "@type") ms
  pub unit : MayHave CanBeName (codes "unit") ms

pub record PropertyShape (p : Position) (ms : Members Number) : Type 0 where
  pub schema : HasMember IsValidSchema (codes "schema") ms
  pub semantic : MayHave (CanBeTypes p) (codes "@type") ms
  pub unit : MayHave CanBeName (codes "unit") ms
  pub writable : MayHave IsTruth (codes "writable") ms

pub record CommandShape (ms : Members Number) : Type 0 where
  pub request : MayHave IsValidPayload (codes "request") ms
  pub response : MayHave IsValidPayload (codes "response") ms

pub record RelationshipShape (ms : Members Number) : Type 0 where
  pub target : MayHave CanBeId (codes "target") ms
  pub properties : MayHave (IsListOf IsValidProperty) (codes "properties") ms
  pub most : MayHave CanBeMultiplicity (codes "maxMultiplicity") ms
  pub writable : MayHave IsTruth (codes "writable") ms

pub record ComponentShape (ms : Members Number) : Type 0 where
  pub of : HasMember CanBeId (codes "schema") ms

-- The shape of a content, by what its `@type` names.
abbrev pub KindShape : Option Element → Members Number → Type 0
KindShape (Some element_kind.Telemetry) ms = TelemetryShape position.Content ms
KindShape (Some element_kind.Property) ms = PropertyShape position.Content ms
KindShape (Some element_kind.Command) ms = CommandShape ms
KindShape (Some element_kind.Relationship) ms = RelationshipShape ms
KindShape (Some element_kind.Component) ms = ComponentShape ms
KindShape other ms = ⊥

pub record ContentShape (ms : Members Number) : Type 0 where
  pub name : HasMember CanBeName (codes "name") ms
  pub common : CommonShape ms
  pub kind : KindShape (type_of position.Content ms) ms

-- An entry of a relationship's `properties`.
pub record RelationshipPropertyShape (ms : Members Number) : Type 0 where
  pub name : HasMember CanBeName (codes "name") ms
  pub common : CommonShape ms
  pub kind : PropertyShape position.Property ms

pub record InterfaceShape (ms : Members Number) : Type 0 where
  pub id : HasMember CanBeId (codes "@id") ms
  pub comment : MayHave IsStringValue (codes "comment") ms
  pub description : MayHave IsWords (codes "description") ms
  pub display_name : MayHave IsWords (codes "displayName") ms
  pub parents : MayHave IsParents (codes "extends") ms
  pub contents : MayHave (IsListOf IsValidContent) (codes "contents") ms
  pub schemas : MayHave (IsListOf IsValidSchema) (codes "schemas") ms

-- What a JSON value declares as an element of DTDL v2: the relation between the value and the element's term. The
-- lists of a term stand in the order of the text. The relation speaks of documents that break no local rule, so it
-- says nothing of limits.
use Rattle.std.specs.Prelude.{◌≡◌, ℕ, ◌⊎◌, List, [], ◌∷◌, Bool, true, false, Option, Some, None, codes, pos}
use Rattle.std.specs.List.{AllZip}
use Rattle.dt_base.specs.names.Grammar.{Identifier, OwnDtmiText, dtmi_text}
use Rattle.json_decimal.specs.Number.{Number}
use Rattle.json_decimal.specs.Comparing.{IsWhole}
use Rattle.json_tree.specs.Values.{Json, null, truth, number, text, array, object, Elements, no_elements, element, Members}
use Rattle.dtdl_terms.specs.Primitives.{primitive_name}
use Rattle.dtdl_terms.specs.Terms.{SchemaTerm, primitive, named, array_of, enumeration, map_of, object_of, PayloadTerm, payload, PayloadTerms, no_payloads, more_payloads, ContentTerm, content, KindTerm, telemetry, property, command, relationship, component, ContentTerms, no_contents, more_contents}
use Rattle.dtdl_terms.specs.TermViews.{schema_term, content_term}
use Rattle.dtdl_terms.specs.declared.common.Common.{Common}
use Rattle.dtdl_terms.specs.declared.common.Entry.{Entry}
use Rattle.dtdl_terms.specs.declared.enumeration.EnumEntry.{EnumEntry}
use Rattle.dtdl_terms.specs.declared.enumeration.EnumValue.{EnumValue}
use Rattle.dtdl_terms.specs.declared.enumeration.EnumValue.TheVariants as values
use Rattle.dtdl_terms.specs.declared.content.Content.{Content}
use Rattle.dtdl_terms.specs.declared.interface.Interface.{Interface}
use Rattle.dtdl_terms.specs.declared.schema.Schema.{Schema}
use Rattle.json_tree.specs.Members.{list_of, pairs_of, value_at, members_in}
use Rattle.local_rules.specs.Roles.{type_of}
use Rattle.local_rules.specs.Typed.{IsPropertyTerm, type_of_kind}
use Rattle.local_rules.specs.Types.{further}
use Rattle.local_rules.specs.declared.role.Element.{Element}
use Rattle.local_rules.specs.declared.role.Element.TheVariants as element_kind
use Rattle.local_rules.specs.declared.role.Position.{Position}
use Rattle.local_rules.specs.declared.role.Position.TheVariants as position

-- ---- what every element may have
-- The member with this key is this text; or it is absent where there is none.
abbrev pub HasString : List ℕ → Members Number → List ℕ → Type 0
HasString key ms bytes = value_at key ms ≡ Some (text bytes)

abbrev pub HasOptionalString : List ℕ → Members Number → Option (List ℕ) → Type 0
HasOptionalString key ms None = value_at key ms ≡ None
HasOptionalString key ms (Some bytes) = HasString key ms bytes

-- A text that is this identifier of an element of one's own.
abbrev pub IsIdentifier : Json → Identifier → Type 0
IsIdentifier v id = (v ≡ text (dtmi_text id)) × OwnDtmiText (dtmi_text id) id

abbrev pub HasId : List ℕ → Members Number → Identifier → Type 0
HasId key ms id = (v : Json) × (value_at key ms ≡ Some v) × IsIdentifier v id

abbrev pub HasOptionalId : List ℕ → Members Number → Option Identifier → Type 0
HasOptionalId key ms None = value_at key ms ≡ None
HasOptionalId key ms (Some id) = HasId key ms id

-- `writable` is false where it is absent.
abbrev pub DeclaresWritable : Option Json → Bool → Type 0
DeclaresWritable None writable = writable ≡ false
DeclaresWritable (Some v) writable = v ≡ truth writable

-- A text in a language, by a member of an object.
abbrev pub IsTextOfLanguage : List ℕ × Json → Entry → Type 0
IsTextOfLanguage m e = (m.0 ≡ e.language) × (m.1 ≡ text e.text)

abbrev pub IsLocalizedBy : Json → List Entry → Type 0
IsLocalizedBy null es = ⊥
IsLocalizedBy (truth b) es = ⊥
IsLocalizedBy (number n) es = ⊥
IsLocalizedBy (text bytes) es = es ≡ record { language = codes "en"; text = bytes } ∷ []
IsLocalizedBy (array vs) es = ⊥
IsLocalizedBy (object ms) es = AllZip IsTextOfLanguage (pairs_of ms) es

-- A localized text (DTDL v2, "Internationalization"): a plain text stands for its entry of the language `en`; an
-- absent one has no entry.
abbrev pub IsLocalized : Option Json → List Entry → Type 0
IsLocalized None es = es ≡ []
IsLocalized (Some v) es = IsLocalizedBy v es

abbrev pub HasLocalized : List ℕ → Members Number → List Entry → Type 0
HasLocalized key ms es = IsLocalized (value_at key ms) es

pub record HasCommon (ms : Members Number) (c : Common) : Type 0 where
  pub id : HasOptionalId (codes "@id") ms c.id
  pub comment : HasOptionalString (codes "comment") ms c.comment
  pub description : HasLocalized (codes "description") ms c.description.entries
  pub display_name : HasLocalized (codes "displayName") ms c.display_name.entries

-- ---- enums
-- The value of an enum entry: a whole number of 32 bits, or a text (DTDL v2, "EnumValue").
abbrev pub IsEnumValue : Json → EnumValue → Type 0
IsEnumValue v (values.Number z) = (n : Number) × (v ≡ number n) × IsWhole n z
IsEnumValue v (values.Word bytes) = v ≡ text bytes

pub record DeclaresEnumEntry (ms : Members Number) (e : EnumEntry) : Type 0 where
  pub name : HasString (codes "name") ms e.name
  pub common : HasCommon ms e.common
  pub value : (v : Json) × (value_at (codes "enumValue") ms ≡ Some v) × IsEnumValue v e.value

abbrev pub IsEnumEntry : Json → EnumEntry → Type 0
IsEnumEntry v e = (ms : Members Number) × (v ≡ object ms) × DeclaresEnumEntry ms e

-- `valueSchema` is `string` or `integer`.
abbrev pub value_schema : Bool → List ℕ
value_schema true = codes "string"
value_schema false = codes "integer"

-- ---- schemas and payloads
-- The value is an object whose `@type` names this kind of schema.
abbrev pub IsSchemaObject : Element → Json → Members Number → Type 0
IsSchemaObject type v ms = (v ≡ object ms) × (type_of position.Schema ms ≡ Some type)

abbrev mutual
  -- A schema (DTDL v2, "Schemas"): a primitive's name, the identifier of a named schema, or an object.
  pub IsSchema : SchemaTerm → Json → Type 0
  IsSchema (primitive p) v = v ≡ text (primitive_name p)
  IsSchema (named id) v = IsIdentifier v id
  IsSchema (array_of c s) v = (ms : Members Number) × (part : Json) × IsSchemaObject element_kind.Array v ms × HasCommon ms c
      × (value_at (codes "elementSchema") ms ≡ Some part) × IsSchema s part
  IsSchema (enumeration c of_text es) v = (ms : Members Number) × (vs : Elements Number) × IsSchemaObject element_kind.Enumeration v ms × HasCommon ms c
      × HasString (codes "valueSchema") ms (value_schema of_text) × (value_at (codes "enumValues") ms ≡ Some (array vs)) × AllZip IsEnumEntry (list_of vs) es
  IsSchema (map_of c k e) v = (ms : Members Number) × (key value : Json) × IsSchemaObject element_kind.Map v ms × HasCommon ms c
      × (value_at (codes "mapKey") ms ≡ Some key) × IsPayload k key × (value_at (codes "mapValue") ms ≡ Some value) × IsPayload e value
  IsSchema (object_of c fs) v = (ms : Members Number) × (vs : Elements Number) × IsSchemaObject element_kind.Object v ms × HasCommon ms c
      × (value_at (codes "fields") ms ≡ Some (array vs)) × ArePayloads fs vs

  -- A payload of a command, a field, or the key or value of a map: its name, and its schema.
  pub IsPayload : PayloadTerm → Json → Type 0
  IsPayload (payload n c s) v = (ms : Members Number) × (part : Json) × (v ≡ object ms) × HasString (codes "name") ms n × HasCommon ms c
      × (value_at (codes "schema") ms ≡ Some part) × IsSchema s part

  pub ArePayloads : PayloadTerms → Elements Number → Type 0
  ArePayloads no_payloads no_elements = Unit {0}
  ArePayloads no_payloads (element v vs) = ⊥
  ArePayloads (more_payloads p ps) no_elements = ⊥
  ArePayloads (more_payloads p ps) (element v vs) = IsPayload p v × ArePayloads ps vs

-- The payload under a key, and where there is one.
abbrev pub HasPayload : List ℕ → Members Number → PayloadTerm → Type 0
HasPayload key ms p = (part : Json) × (value_at key ms ≡ Some part) × IsPayload p part

abbrev pub HasOptionalPayload : List ℕ → Members Number → Option PayloadTerm → Type 0
HasOptionalPayload key ms None = value_at key ms ≡ None
HasOptionalPayload key ms (Some p) = HasPayload key ms p

-- The schema under a key.
abbrev pub HasSchema : List ℕ → Members Number → SchemaTerm → Type 0
HasSchema key ms s = (part : Json) × (value_at key ms ≡ Some part) × IsSchema s part

-- ---- contents
-- The entries of a list, of which there are none where it is absent.
abbrev pub AreEntriesOf : Option Json → Elements Number → Type 0
AreEntriesOf None vs = vs ≡ no_elements
AreEntriesOf (Some v) vs = v ≡ array vs

-- The semantic type is the entry of `@type` beside the content's type (DTDL v2, "Semantic types").
abbrev pub IsSemantic : Position → Option Json → Option (List ℕ) → Type 0
IsSemantic p (Some (array vs)) None = further p (list_of vs) ≡ []
IsSemantic p (Some (array vs)) (Some name) = further p (list_of vs) ≡ text name ∷ []
IsSemantic p other None = Unit {0}
IsSemantic p other (Some name) = ⊥

abbrev pub HasSemantic : Position → Members Number → Option (List ℕ) → Type 0
HasSemantic p ms semantic = IsSemantic p (value_at (codes "@type") ms) semantic

-- `maxMultiplicity` is no bound where it is absent.
abbrev pub HasMax : Members Number → Option ℕ → Type 0
HasMax ms None = value_at (codes "maxMultiplicity") ms ≡ None
HasMax ms (Some most) = (n : Number) × (value_at (codes "maxMultiplicity") ms ≡ Some (number n)) × IsWhole n (pos most)

abbrev mutual
  pub AreKind : Position → KindTerm → Members Number → Type 0
  AreKind p (telemetry s semantic unit) ms = HasSchema (codes "schema") ms s × HasSemantic p ms semantic × HasOptionalString (codes "unit") ms unit
  AreKind p (property s semantic unit writable) ms = HasSchema (codes "schema") ms s × HasSemantic p ms semantic × HasOptionalString (codes "unit") ms unit
      × DeclaresWritable (value_at (codes "writable") ms) writable
  AreKind p (command request response) ms = HasOptionalPayload (codes "request") ms request × HasOptionalPayload (codes "response") ms response
  AreKind p (relationship target properties most writable) ms = HasOptionalId (codes "target") ms target
      × ((vs : Elements Number) × AreEntriesOf (value_at (codes "properties") ms) vs × AreProperties properties vs)
      × HasMax ms most × DeclaresWritable (value_at (codes "writable") ms) writable
  AreKind p (component id) ms = HasId (codes "schema") ms id

  -- A content at a position of `@type`: its name, what every element has, and what its kind has.
  pub IsContent : Position → ContentTerm → Json → Type 0
  IsContent p (content n c k) v = (ms : Members Number) × (v ≡ object ms) × HasString (codes "name") ms n × HasCommon ms c × AreKind p k ms

  -- The entries of a relationship's `properties`, each a property whatever its `@type` names.
  pub AreProperties : ContentTerms → Elements Number → Type 0
  AreProperties no_contents no_elements = Unit {0}
  AreProperties no_contents (element v vs) = ⊥
  AreProperties (more_contents p ps) no_elements = ⊥
  AreProperties (more_contents p ps) (element v vs) = (IsContent position.Property p v × IsPropertyTerm p) × AreProperties ps vs

-- The entries of `contents`, each of the kind that its `@type` names.
abbrev pub HasKindOf : ContentTerm → Json → Type 0
HasKindOf (content n c k) v = type_of position.Content (members_in v) ≡ Some (type_of_kind k)

abbrev pub IsContentEntry : Json → Content → Type 0
IsContentEntry v c = HasKindOf (content_term c) v × IsContent position.Content (content_term c) v

-- ---- interfaces
-- The elements of a list are of this kind, one for one, in the order of the text; absent and empty lists are equal.
abbrev pub HasEach : {A : Type 0} → (Json → A → Type 0) → Option Json → List A → Type 0
HasEach Is list xs = (vs : Elements Number) × AreEntriesOf list vs × AllZip Is (list_of vs) xs

abbrev pub HasContents : Option Json → List Content → Type 0
HasContents list cs = HasEach IsContentEntry list cs

abbrev pub HasSchemas : Option Json → List Schema → Type 0
HasSchemas list ss = HasEach (λ v s. IsSchema (schema_term s) v) list ss

-- The parents of an interface: one as a text, or those of a list.
abbrev pub HasParents : Option Json → List Identifier → Type 0
HasParents None ids = ids ≡ []
HasParents (Some v) ids = ((id : Identifier) × (ids ≡ id ∷ []) × IsIdentifier v id)
    ⊎ ((vs : Elements Number) × (v ≡ array vs) × AllZip IsIdentifier (list_of vs) ids)

-- The members of an object declare this interface (DTDL v2, "Interface").
pub record DeclaresInterface (ms : Members Number) (i : Interface) : Type 0 where
  pub id : HasId (codes "@id") ms i.id
  pub comment : HasOptionalString (codes "comment") ms i.comment
  pub description : HasLocalized (codes "description") ms i.description.entries
  pub display_name : HasLocalized (codes "displayName") ms i.display_name.entries
  pub parents : HasParents (value_at (codes "extends") ms) i.parents
  pub contents : HasContents (value_at (codes "contents") ms) i.contents
  pub schemas : HasSchemas (value_at (codes "schemas") ms) i.schemas

-- What an interface without breach declares is within the limits.
use Rattle.std.proofs.Common.{◌≡◌, ◌≢◌, ℕ, zero, suc, ◌<◌, ◌≤◌, ◌⊎◌, inl, inr, List, [], ◌∷◌, length, Option, Some, None, refl, sym, ap, subst, ◌∙◌, arith, lit≤}
use Rattle.std.specs.Prelude.{IfSome, codes}
use Rattle.std.specs.List.{AllByRecursion, AllZip}
use Rattle.std.proofs.lemmas.Slice.Zip.{AllZip-long}
use Rattle.dt_base.specs.names.Grammar.{Identifier, dtmi_text}
use Rattle.json_decimal.specs.Number.{Number}
use Rattle.json_tree.specs.Values.{Json, null, truth, number, text, array, object, Elements, no_elements, element, Members, no_members, member}
use Rattle.json_tree.specs.Places.{element_at, member_at}
use Rattle.dtdl_terms.specs.Terms.{SchemaTerm, primitive, named, array_of, enumeration, map_of, object_of, PayloadTerm, payload, PayloadTerms, no_payloads, more_payloads, ContentTerm, content, KindTerm, telemetry, property, command, relationship, component, ContentTerms, no_contents, more_contents}
use Rattle.dtdl_terms.specs.TermViews.{schema_term, content_term}
use Rattle.dtdl_terms.specs.Distinct.{payload_names}
use Rattle.dtdl_terms.specs.declared.common.Common.{Common}
use Rattle.dtdl_terms.specs.declared.common.Entry.{Entry}
use Rattle.dtdl_terms.specs.declared.content.Content.{Content}
use Rattle.dtdl_terms.specs.declared.enumeration.EnumEntry.{EnumEntry}
use Rattle.dtdl_terms.specs.declared.interface.Interface.{Interface}
use Rattle.dtdl_terms.specs.declared.schema.Schema.{Schema}
use Rattle.json_tree.specs.Members.{list_of, members_in, pairs_of, value_at}
use Rattle.local_rules.specs.Roles.{element_of, key_of, schema_role, type_of, schema_of_values}
use Rattle.local_rules.specs.Identifiers.{id_use, of_interface}
use Rattle.local_rules.specs.Levels.{IsOuter}
use Rattle.local_rules.specs.Texts.{IsTextOf, scalar_values}
use Rattle.local_rules.specs.Types.{MayHaveBeside}
use Rattle.local_rules.specs.declared.key.Key.TheVariants as key
use Rattle.local_rules.specs.declared.rule.LocalRule.TheVariants as rule
use Rattle.local_rules.specs.declared.role.Element.{Element}
use Rattle.local_rules.specs.declared.role.Element.TheVariants as element_kind
use Rattle.local_rules.specs.declared.role.Localized.{Localized}
use Rattle.local_rules.specs.declared.role.Localized.TheVariants as localized
use Rattle.local_rules.specs.declared.role.PayloadUse.{PayloadUse}
use Rattle.local_rules.specs.declared.role.PayloadUse.TheVariants as payload_use
use Rattle.local_rules.specs.declared.role.Position.{Position}
use Rattle.local_rules.specs.declared.role.Position.TheVariants as position
use Rattle.local_rules.specs.declared.role.Role.{Role}
use Rattle.local_rules.specs.declared.role.Role.TheVariants as role
use Rattle.local_rules.specs.declared.role.SchemaUse.{SchemaUse}
use Rattle.local_rules.specs.declared.role.SchemaUse.TheVariants as schema_use
use Rattle.local_rules.specs.declared.role.ValueSchema.{ValueSchema}
use Rattle.local_rules.specs.Declarations.{ArePayloads, AreProperties, AreEntriesOf, AreKind, DeclaresInterface, HasCommon, HasContents, HasKindOf, HasSchemas, HasOptionalId, HasOptionalPayload, HasOptionalString, HasParents, HasSchema, HasSemantic, HasString, IsContent, IsContentEntry, IsEnumEntry, IsIdentifier, IsLocalized, IsLocalizedBy, IsPayload, IsSchema, IsSemantic, IsTextOfLanguage}
use Rattle.local_rules.specs.Typed.{IsPropertyTerm, type_of_kind}
use Rattle.local_rules.specs.Limits.{ContentIsWithin, ContentsAreWithin, EnumEntryIsWithin, HasShortTexts, IsShortId, IsShortInterfaceId, IsShortName, IsShortText, IsWithinLimits, KindIsWithin, OuterPayloadIsWithin, OuterSchemaIsWithin, PayloadIsWithin, PayloadsAreWithin, SchemaIsWithin, levels}
use Rattle.model_read.specs.Machinery.Shapes.{CanBeName, CanBeTypes, IsValid}
use Rattle.model_read.proofs.Valid.{here, placed_valid}
use Rattle.model_read.proofs.Leaves as leaves
use Rattle.model_read.proofs.Deep.{has_levels}
use Rattle.model_read.proofs.Standing.{BreaksNowhere, Stands, entry_stands, itself, key_stands, not_deep, stands_valid}

-- ---- values by themselves
pub short_name : (name : List ℕ) → CanBeName (text name) → IsShortName name
short_name name can =
    let not_long : 64 < length name → ⊥ = λ long. can (λ is.
    let same : name ≡ is.0 = (let e = is.1 in cc) in
    let count : length name ≡ length is.0 = ap length same in
    let short = is.2.short in absurd (omega arith)) in
    omega (arith, not_long)

short_id : (v : Json) (id : Identifier) → IsIdentifier v id → IsShortId id
short_id v id is = is.1.text.short

short_interface_id : (r : Role) (v : Json) (id : Identifier) → ((bytes : List ℕ) → id_use r bytes ≡ of_interface) → IsIdentifier v id → IsValid r v
    → IsShortInterfaceId id
short_interface_id r v id used is valid =
    let valid_there = subst (IsValid r) is.0 valid in
    let not_long : 128 < length (dtmi_text id) → ⊥ = λ long. here r (text (dtmi_text id)) rule.LongInterfaceId valid_there (used (dtmi_text id), long) in
    omega (arith, not_long)

short_comment : (bytes : List ℕ) → IsValid role.Comment (text bytes) → IsShortText 512 bytes
short_comment bytes valid =
    let not_long : 512 < scalar_values bytes → ⊥ = λ long. here role.Comment (text bytes) rule.LongComment valid (refl, long) in
    omega (arith, not_long)

-- how long a text of each kind may be
abbrev limit_of : Localized → ℕ
limit_of localized.DisplayName = 64
limit_of localized.Description = 512

short_text : (which : Localized) (r : Role) (bytes : List ℕ) → IsTextOf which r → IsValid r (text bytes) → IsShortText (limit_of which) bytes
short_text localized.DisplayName r bytes is valid =
    let not_long : 64 < scalar_values bytes → ⊥ = λ long. here r (text bytes) rule.LongDisplayName valid (is, long) in
    omega (arith, not_long)
short_text localized.Description r bytes is valid =
    let not_long : 512 < scalar_values bytes → ⊥ = λ long. here r (text bytes) rule.LongDescription valid (is, long) in
    omega (arith, not_long)

short_texts : (which : Localized) (ms : Members Number) (es : List Entry)
    → ((i : ℕ) (k : List ℕ) (v : Json) → member_at ms i ≡ Some (k, v) → (r : Role) × IsTextOf which r × IsValid r v) → AllZip IsTextOfLanguage (pairs_of ms) es
    → AllByRecursion (λ e. IsShortText (limit_of which) e.text) es
short_texts which no_members [] valid all = tt
short_texts which no_members (e ∷ es) valid all = absurd all
short_texts which (member k v ms) [] valid all = absurd all
short_texts which (member k v ms) (e ∷ es) valid all =
    let first = valid zero k v refl in (
      short_text which first.0 e.text first.1 (subst (IsValid first.0) all.0.1 first.2),
      short_texts which ms es (λ i k v at. valid (suc i) k v at) all.1,
    )

short_localized : (which : Localized) (v : Json) (es : List Entry) → IsLocalizedBy v es → IsValid (role.Localized which) v
    → AllByRecursion (λ e. IsShortText (limit_of which) e.text) es
short_localized which (text bytes) es is valid = subst
    (λ (xs : List Entry). AllByRecursion (λ e. IsShortText (limit_of which) e.text) xs)
    (sym is)
    (short_text which (role.Localized which) bytes (inl refl) valid, tt)
short_localized which (object ms) es is valid = short_texts which ms es
    (λ i k v at.
    let r : Role = role.LocalizedText which in
    (r, inr refl, placed_valid (role.Localized which) ms i r k v at refl valid))
    is
short_localized which null es is valid = absurd is
short_localized which (truth b) es is valid = absurd is
short_localized which (number n) es is valid = absurd is
short_localized which (array vs) es is valid = absurd is

short_optional : (which : Localized) (o : Option Json) (es : List Entry) → IsLocalized o es → ((v : Json) → o ≡ Some v → IsValid (role.Localized which) v)
    → AllByRecursion (λ e. IsShortText (limit_of which) e.text) es
short_optional which None es is valid = subst (λ (xs : List Entry). AllByRecursion (λ e. IsShortText (limit_of which) e.text) xs) (sym is) tt
short_optional which (Some v) es is valid = short_localized which v es is (valid v refl)

-- ---- in an interface in which no rule is broken
module _ (whole : Json) (none : BreaksNowhere whole) where
  -- the comment, the description and the display name of an element
  comment_within : (ms : Members Number) (o : Option (List ℕ)) → ((v : Json) → value_at (codes "comment") ms ≡ Some v → Stands whole role.Comment v)
      → HasOptionalString (codes "comment") ms o → IfSome o (IsShortText 512)
  comment_within ms None stands has = tt
  comment_within ms (Some bytes) stands has = short_comment bytes (stands_valid whole none role.Comment (text bytes) (stands (text bytes) has))

  id_within : (ms : Members Number) (o : Option Identifier) → HasOptionalId (codes "@id") ms o → IfSome o IsShortId
  id_within ms None has = tt
  id_within ms (Some id) has = short_id has.0 id has.2

  common_within : (e : Element) (r : Role) (ms : Members Number) (c : Common) → element_of r ms ≡ Some e → e ≢ element_kind.Interface → Stands whole r (object ms)
      → HasCommon ms c → HasShortTexts c
  common_within element_kind.Interface r ms c is other stands has = absurd (other refl)
  common_within e r ms c is other stands has = record {
    id = id_within ms c.id has.id;
    comment = comment_within ms c.comment (λ v at. key_stands whole r ms e key.Comment (codes "comment") v is refl at stands) has.comment;
    description = short_optional localized.Description (value_at (codes "description") ms) c.description.entries has.description
        (λ v at. stands_valid whole none (role.Localized localized.Description) v (key_stands whole r ms e key.Description (codes "description") v is refl at stands));
    display_name = short_optional localized.DisplayName (value_at (codes "displayName") ms) c.display_name.entries has.display_name
        (λ v at. stands_valid whole none (role.Localized localized.DisplayName) v (key_stands whole r ms e key.DisplayName (codes "displayName") v is refl at stands));
  }

  -- a name in its role
  name_within : (name : List ℕ) → Stands whole role.Name (text name) → IsShortName name
  name_within name stands = short_name name (leaves.name (text name) (stands_valid whole none role.Name (text name) stands))

  -- ---- enums
  enum_entry_within : (k : ValueSchema) (v : Json) (e : EnumEntry) → IsEnumEntry v e → Stands whole (role.EnumEntry k) v
      → EnumEntryIsWithin e
  enum_entry_within k v e has there =
      let r : Role = role.EnumEntry k in
      let stands = subst (Stands whole r) has.1 there in
      record {
        name = name_within e.name
            (key_stands whole r has.0 element_kind.EnumEntry key.Name (codes "name") (text e.name) refl refl has.2.name stands);
        common = common_within element_kind.EnumEntry r has.0 e.common refl (λ other. absurd cc) stands has.2.common;
      }

  enum_entries_within : (k : ValueSchema) (vs : Elements Number) (es : List EnumEntry)
      → ((i : ℕ) (v : Json) → element_at vs i ≡ Some v → Stands whole (role.EnumEntry k) v)
      → AllZip IsEnumEntry (list_of vs) es → AllByRecursion EnumEntryIsWithin es
  enum_entries_within k no_elements [] stands all = tt
  enum_entries_within k no_elements (e ∷ es) stands all = absurd all
  enum_entries_within k (element v vs) [] stands all = absurd all
  enum_entries_within k (element v vs) (e ∷ es) stands all =
      let first = stands zero v refl in
      (enum_entry_within k v e all.0 first, enum_entries_within k vs es (λ i w at. stands (suc i) w at) all.1)

  few_enum_entries : (k : ValueSchema) (vs : Elements Number) (es : List EnumEntry) → AllZip IsEnumEntry (list_of vs) es → Stands whole (role.EnumValues k) (array vs)
      → length es ≤ 100
  few_enum_entries k vs es all stands =
      let long = AllZip-long IsEnumEntry (list_of vs) es all in
      let valid = stands_valid whole none (role.EnumValues k) (array vs) stands in
      let not_many : 100 < length (list_of vs) → ⊥ = λ many. here (role.EnumValues k) (array vs) rule.TooManyEnumValues valid (k, refl, many) in
      omega (arith, not_many)

  -- ---- schemas and payloads
  abbrev pub IsSchemaRole : Role → Type 0
  IsSchemaRole r = (r ≡ role.NamedSchema) ⊎ ((part : SchemaUse) × (r ≡ role.Schema part))

  pub schema_element : (r : Role) → IsSchemaRole r → (ms : Members Number) → element_of r ms ≡ type_of position.Schema ms
  schema_element r (inl is) ms = ap (λ (q : Role). element_of q ms) is
  schema_element r (inr is) ms = ap (λ (q : Role). element_of q ms) is.1

  abbrev pub IsPayloadRole : Role → Type 0
  IsPayloadRole r = ((part : PayloadUse) × (r ≡ role.Payload part)) ⊎ (r ≡ role.Field)

  pub payload_element : (r : Role) → IsPayloadRole r → (ms : Members Number) → element_of r ms ≡ Some element_kind.Payload
  payload_element r (inl is) ms = ap (λ (q : Role). element_of q ms) is.1
  payload_element r (inr is) ms = ap (λ (q : Role). element_of q ms) is

  payload_schema_part : (part : PayloadUse) → IsSchemaRole (schema_role (role.Payload part) element_kind.Payload)
  payload_schema_part payload_use.Command = inr (schema_use.Outer, refl)
  payload_schema_part payload_use.MapKey = inr (schema_use.MapKey, refl)
  payload_schema_part payload_use.MapValue = inr (schema_use.Inner, refl)

  pub payload_schema : (r : Role) → IsPayloadRole r → IsSchemaRole (schema_role r element_kind.Payload)
  payload_schema r (inl is) = subst (λ (q : Role). IsSchemaRole (schema_role q element_kind.Payload)) (sym is.1) (payload_schema_part is.0)
  payload_schema r (inr is) = subst (λ (q : Role). IsSchemaRole (schema_role q element_kind.Payload)) (sym is) (inr (schema_use.Inner, refl))

  payload_name_within : (r : Role) (ms : Members Number) (name : List ℕ) → IsPayloadRole r → HasString (codes "name") ms name → Stands whole r (object ms)
      → IsShortName name
  payload_name_within r ms name is has stands =
      name_within name (key_stands whole r ms element_kind.Payload key.Name (codes "name") (text name) (payload_element r is ms) refl has stands)

  field_count : (ps : PayloadTerms) (vs : Elements Number) → ArePayloads ps vs → length (payload_names ps) ≡ length (list_of vs)
  field_count no_payloads no_elements all = refl
  field_count no_payloads (element v vs) all = absurd all
  field_count (more_payloads p ps) no_elements all = absurd all
  field_count (more_payloads p ps) (element v vs) all = let rest = field_count ps vs all.1 in omega arith

  few_fields : (ps : PayloadTerms) (vs : Elements Number) → ArePayloads ps vs → Stands whole role.Fields (array vs) → length (payload_names ps) ≤ 30
  few_fields ps vs all stands =
      let long = field_count ps vs all in
      let valid = stands_valid whole none role.Fields (array vs) stands in
      let not_many : 30 < length (list_of vs) → ⊥ = λ many. here role.Fields (array vs) rule.TooManyFields valid (refl, many) in
      omega (arith, not_many)

  mutual
    schema_within : (s : SchemaTerm) (r : Role) (v : Json) → IsSchemaRole r → IsSchema s v → Stands whole r v → SchemaIsWithin s
    schema_within (primitive p) r v is g there = tt
    schema_within (named id) r v is g there = short_id v id g
    schema_within (array_of c s) r v is g there =
        let stands = subst (Stands whole r) g.2.0 there in
        let e = schema_element r is g.0 ∙ g.2.1 in (
          common_within element_kind.Array r g.0 c e (λ other. absurd cc) stands g.3,
          schema_within s (role.Schema schema_use.Inner) g.1 (inr (schema_use.Inner, refl)) g.5
              (key_stands whole r g.0 element_kind.Array key.ElementSchema (codes "elementSchema") g.1 e refl g.4 stands),
        )
    schema_within (enumeration c of_text es) r v is g there =
        let stands = subst (Stands whole r) g.2.0 there in
        let e = schema_element r is g.0 ∙ g.2.1 in
        let k = schema_of_values g.0 in
        let listed = key_stands whole r g.0 element_kind.Enumeration key.EnumValues (codes "enumValues") (array g.1) e refl g.5 stands in (
          common_within element_kind.Enumeration r g.0 c e (λ other. absurd cc) stands g.3,
          few_enum_entries k g.1 es g.6 listed,
          enum_entries_within k g.1 es (λ i w at. entry_stands whole (role.EnumValues k) g.1 i (role.EnumEntry k) w refl at listed) g.6,
        )
    schema_within (map_of c k e) r v is g there =
        let stands = subst (Stands whole r) g.3.0 there in
        let element = schema_element r is g.0 ∙ g.3.1 in (
          common_within element_kind.Map r g.0 c element (λ other. absurd cc) stands g.4,
          payload_within k (role.Payload payload_use.MapKey) g.1 (inl (payload_use.MapKey, refl)) g.6
              (key_stands whole r g.0 element_kind.Map key.MapKey (codes "mapKey") g.1 element refl g.5 stands),
          payload_within e (role.Payload payload_use.MapValue) g.2 (inl (payload_use.MapValue, refl)) g.8
              (key_stands whole r g.0 element_kind.Map key.MapValue (codes "mapValue") g.2 element refl g.7 stands),
        )
    schema_within (object_of c fs) r v is g there =
        let stands = subst (Stands whole r) g.2.0 there in
        let e = schema_element r is g.0 ∙ g.2.1 in
        let listed = key_stands whole r g.0 element_kind.Object key.Fields (codes "fields") (array g.1) e refl g.4 stands in (
          common_within element_kind.Object r g.0 c e (λ other. absurd cc) stands g.3,
          few_fields fs g.1 g.5 listed,
          payloads_within fs g.1 g.5
              (λ i w at. entry_stands whole role.Fields g.1 i role.Field w refl at listed),
        )

    payload_within : (p : PayloadTerm) (r : Role) (v : Json) → IsPayloadRole r → IsPayload p v → Stands whole r v → PayloadIsWithin p
    payload_within (payload n c s) r v is g there =
        let stands = subst (Stands whole r) g.2 there in
        let e = payload_element r is g.0 in (
          payload_name_within r g.0 n is g.3 stands,
          common_within element_kind.Payload r g.0 c e (λ other. absurd cc) stands g.4,
          schema_within s (schema_role r element_kind.Payload) g.1 (payload_schema r is) g.6
              (key_stands whole r g.0 element_kind.Payload key.Schema (codes "schema") g.1 e refl g.5 stands),
        )

    payloads_within : (ps : PayloadTerms) (vs : Elements Number) → ArePayloads ps vs
        → ((i : ℕ) (v : Json) → element_at vs i ≡ Some v → Stands whole role.Field v) → PayloadsAreWithin ps
    payloads_within no_payloads vs all stands = tt
    payloads_within (more_payloads p ps) no_elements all stands = absurd all
    payloads_within (more_payloads p ps) (element v vs) all stands =
        let first = stands zero v refl in
        (payload_within p role.Field v (inr refl) all.0 first, payloads_within ps vs all.1 (λ i w at. stands (suc i) w at))

  -- a schema that lies in no other
  outer_role : (r : Role) → IsOuter r → IsSchemaRole r
  outer_role r (inl is) = inr (schema_use.Outer, is)
  outer_role r (inr (inl is)) = inr (schema_use.Property, is)
  outer_role r (inr (inr is)) = inl is

  not_many_levels : (s : SchemaTerm) (r : Role) (v : Json) → IsOuter r → IsSchema s v → Stands whole r v → levels s ≤ 5
  not_many_levels s r v is g stands =
      let ms = members_in whole in
      let shallow : 6 ≤ levels s → ⊥ = λ deep. not_deep whole none r v stands (is, has_levels ms s v g 6 deep) in
      omega (arith, shallow)

  outer_within : (s : SchemaTerm) (r : Role) (v : Json) → IsOuter r → IsSchema s v → Stands whole r v → OuterSchemaIsWithin s
  outer_within s r v is g stands = (not_many_levels s r v is g stands, schema_within s r v (outer_role r is) g stands)

  outer_payload_within : (p : PayloadTerm) (v : Json) → IsPayload p v → Stands whole (role.Payload payload_use.Command) v → OuterPayloadIsWithin p
  outer_payload_within (payload n c s) v g there =
      let r : Role = role.Payload payload_use.Command in
      let stands = subst (Stands whole r) g.2 there in
      let outer = key_stands whole r g.0 element_kind.Payload key.Schema (codes "schema") g.1 refl refl g.5 stands in
      (not_many_levels s (role.Schema schema_use.Outer) g.1 (inl refl) g.6 outer, payload_within (payload n c s) r v (inl (payload_use.Command, refl)) g there)

  -- ---- contents
  unit_within : (ms : Members Number) (o : Option (List ℕ)) → ((v : Json) → value_at (codes "unit") ms ≡ Some v → Stands whole role.Unit v)
      → HasOptionalString (codes "unit") ms o → IfSome o IsShortName
  unit_within ms None stands has = tt
  unit_within ms (Some name) stands has = short_name name (leaves.unit (text name) (stands_valid whole none role.Unit (text name) (stands (text name) has)))

  -- the semantic type beside a type
  semantic_in : (p : Position) (o : Option Json) (semantic : Option (List ℕ)) → ((v : Json) → o ≡ Some v → CanBeTypes p v) → IsSemantic p o semantic
      → IfSome semantic IsShortName
  semantic_in p o None types is = tt
  semantic_in p (Some (array vs)) (Some name) types is = short_name name (λ no_name. types (array vs) refl vs refl (λ beside.
      no_name (subst (λ (ws : List Json). MayHaveBeside element_kind.Property ws) is beside)))
  semantic_in p other (Some name) types is = absurd is

  -- what a telemetry and a property have
  data_within : (p : Position) (r : Role) (e : Element) (ms : Members Number) (s : SchemaTerm) (semantic unit : Option (List ℕ))
      → ((v : Json) → value_at (codes "schema") ms ≡ Some v → (q : Role) × IsOuter q × Stands whole q v)
      → ((v : Json) → value_at (codes "@type") ms ≡ Some v → CanBeTypes p v)
      → ((v : Json) → value_at (codes "unit") ms ≡ Some v → Stands whole role.Unit v)
      → HasSchema (codes "schema") ms s → HasSemantic p ms semantic → HasOptionalString (codes "unit") ms unit
      → OuterSchemaIsWithin s × IfSome semantic IsShortName × IfSome unit IsShortName
  data_within p r e ms s semantic unit schemas types units has_schema has_semantic has_unit =
      let outer = schemas has_schema.0 has_schema.1 in (
        outer_within s outer.0 has_schema.0 outer.1 has_schema.2 outer.2,
        semantic_in p (value_at (codes "@type") ms) semantic types has_semantic,
        unit_within ms unit units has_unit,
      )

  pub nothing_in : (vs : Elements Number) (i : ℕ) (v : Json) → vs ≡ no_elements → element_at vs i ≡ Some v → ⊥
  nothing_in no_elements i v is at = cc
  nothing_in (element w vs) i v is at = cc

  -- an entry of a relationship's `properties`
  property_within : (c : ContentTerm) (v : Json) → IsContent position.Property c v → IsPropertyTerm c → Stands whole role.RelationshipProperty v
      → ContentIsWithin c
  property_within (content n c (property s semantic unit writable)) v g is there =
      let r : Role = role.RelationshipProperty in
      let e = element_kind.Property in
      let stands = subst (Stands whole r) g.1 there in (
        name_within n (key_stands whole r g.0 e key.Name (codes "name") (text n) refl refl g.2 stands),
        common_within e r g.0 c refl (λ other. absurd cc) stands g.3,
        data_within position.Property r e g.0 s semantic unit
            (λ w at. (role.Schema schema_use.Property, inr (inl refl), key_stands whole r g.0 e key.Schema (codes "schema") w refl refl at stands))
            (λ w at. leaves.property_types w (stands_valid whole none (role.Type position.Property) w (key_stands whole r g.0 e key.Type (codes "@type") w refl refl at stands)))
            (λ w at. key_stands whole r g.0 e key.Unit (codes "unit") w refl refl at stands) g.4.0 g.4.1 g.4.2,
      )
  property_within (content n c other) v g is there = absurd cc

  properties_within : (cs : ContentTerms) (vs : Elements Number) → AreProperties cs vs
      → ((i : ℕ) (v : Json) → element_at vs i ≡ Some v → Stands whole role.RelationshipProperty v) → ContentsAreWithin cs
  properties_within no_contents vs all stands = tt
  properties_within (more_contents c cs) no_elements all stands = absurd all
  properties_within (more_contents c cs) (element v vs) all stands =
      let first = stands zero v refl in
      (property_within c v all.0.0 all.0.1 first, properties_within cs vs all.1 (λ i w at. stands (suc i) w at))

  optional_payload_within : (k : List ℕ) (ms : Members Number) (o : Option PayloadTerm)
      → ((v : Json) → value_at k ms ≡ Some v → Stands whole (role.Payload payload_use.Command) v) → HasOptionalPayload k ms o → IfSome o OuterPayloadIsWithin
  optional_payload_within k ms None stands has = tt
  optional_payload_within k ms (Some p) stands has = outer_payload_within p has.0 has.2 (stands has.0 has.1)

  target_within : (k : List ℕ) (ms : Members Number) (o : Option Identifier) → ((v : Json) → value_at k ms ≡ Some v → Stands whole role.InterfaceReference v)
      → HasOptionalId k ms o → IfSome o IsShortInterfaceId
  target_within k ms None stands has = tt
  target_within k ms (Some id) stands has = short_interface_id role.InterfaceReference has.0 id (λ bytes. refl) has.2
      (stands_valid whole none role.InterfaceReference has.0 (stands has.0 has.1))

  listed_within : (cs : ContentTerms) (o : Option Json) → ((vs : Elements Number) × AreEntriesOf o vs × AreProperties cs vs)
      → ((v : Json) → o ≡ Some v → Stands whole role.Properties v) → ContentsAreWithin cs
  listed_within cs None g stands = properties_within cs g.0 g.2 (λ i v at. absurd (nothing_in g.0 i v g.1 at))
  listed_within cs (Some w) g stands =
      let listed = subst (Stands whole role.Properties) g.1 (stands w refl) in
      properties_within cs g.0 g.2
      (λ i v at. entry_stands whole role.Properties g.0 i role.RelationshipProperty v refl at listed)

  kind_within : (k : KindTerm) (ms : Members Number) → type_of position.Content ms ≡ Some (type_of_kind k) → AreKind position.Content k ms
      → Stands whole role.Content (object ms) → KindIsWithin k
  kind_within (telemetry s semantic unit) ms is g stands =
      let r : Role = role.Content in
      let e = element_kind.Telemetry in
      data_within position.Content r e ms s semantic unit
      (λ w at. (role.Schema schema_use.Outer, inl refl, key_stands whole r ms e key.Schema (codes "schema") w is refl at stands))
      (λ w at. leaves.content_types w (stands_valid whole none (role.Type position.Content) w (key_stands whole r ms e key.Type (codes "@type") w is refl at stands)))
      (λ w at. key_stands whole r ms e key.Unit (codes "unit") w is refl at stands) g.0 g.1 g.2
  kind_within (property s semantic unit writable) ms is g stands =
      let r : Role = role.Content in
      let e = element_kind.Property in
      data_within position.Content r e ms s semantic unit
      (λ w at. (role.Schema schema_use.Property, inr (inl refl), key_stands whole r ms e key.Schema (codes "schema") w is refl at stands))
      (λ w at. leaves.content_types w (stands_valid whole none (role.Type position.Content) w (key_stands whole r ms e key.Type (codes "@type") w is refl at stands)))
      (λ w at. key_stands whole r ms e key.Unit (codes "unit") w is refl at stands) g.0 g.1 g.2
  kind_within (command request response) ms is g stands =
      let r : Role = role.Content in
      let e = element_kind.Command in (
        optional_payload_within (codes "request") ms request (λ w at. key_stands whole r ms e key.Request (codes "request") w is refl at stands) g.0,
        optional_payload_within (codes "response") ms response (λ w at. key_stands whole r ms e key.Response (codes "response") w is refl at stands) g.1,
      )
  kind_within (relationship target cs most writable) ms is g stands =
      let r : Role = role.Content in
      let e = element_kind.Relationship in (
        target_within (codes "target") ms target (λ w at. key_stands whole r ms e key.Target (codes "target") w is refl at stands) g.0,
        listed_within cs (value_at (codes "properties") ms) g.1 (λ w at. key_stands whole r ms e key.Properties (codes "properties") w is refl at stands),
      )
  kind_within (component id) ms is g stands =
      let r : Role = role.Content in
      let there = key_stands whole r ms element_kind.Component key.Schema (codes "schema") g.0 is refl g.1 stands in
      short_interface_id role.InterfaceReference g.0 id (λ bytes. refl) g.2 (stands_valid whole none role.InterfaceReference g.0 there)

  -- each kind of content has a name, and what every element but an interface may have
  pub name_known : (k : KindTerm) → key_of (type_of_kind k) (codes "name") ≡ Some key.Name
  name_known (telemetry s a b) = refl
  name_known (property s a b w) = refl
  name_known (command a b) = refl
  name_known (relationship a b m w) = refl
  name_known (component id) = refl

  no_interface : (k : KindTerm) → type_of_kind k ≢ element_kind.Interface
  no_interface (telemetry s a b) is = cc
  no_interface (property s a b w) is = cc
  no_interface (command a b) is = cc
  no_interface (relationship a b m w) is = cc
  no_interface (component id) is = cc

  content_within : (c : ContentTerm) (v : Json) → HasKindOf c v → IsContent position.Content c v → Stands whole role.Content v
      → ContentIsWithin c
  content_within (content n c k) v typed g there =
      let r : Role = role.Content in
      let stands = subst (Stands whole r) g.1 there in
      let is : type_of position.Content g.0 ≡ Some (type_of_kind k) = subst (λ (w : Json). type_of position.Content (members_in w) ≡ Some (type_of_kind k)) g.1 typed in (
        name_within n (key_stands whole r g.0 (type_of_kind k) key.Name (codes "name") (text n) is (name_known k) g.2 stands),
        common_within (type_of_kind k) r g.0 c is (no_interface k) stands g.3,
        kind_within k g.0 is g.4 stands,
      )

  -- ---- interfaces
  parents_within : (vs : Elements Number) (ids : List Identifier) → AllZip IsIdentifier (list_of vs) ids
      → ((i : ℕ) (v : Json) → element_at vs i ≡ Some v → Stands whole role.Parent v) → AllByRecursion IsShortInterfaceId ids
  parents_within no_elements [] all stands = tt
  parents_within no_elements (id ∷ ids) all stands = absurd all
  parents_within (element v vs) [] all stands = absurd all
  parents_within (element v vs) (id ∷ ids) all stands =
      let first = stands zero v refl in (
        short_interface_id role.Parent v id (λ bytes. refl) all.0 (stands_valid whole none role.Parent v first),
        parents_within vs ids all.1 (λ i w at. stands (suc i) w at),
      )

  listed_parents_within : (vs : Elements Number) (ids : List Identifier) → AllZip IsIdentifier (list_of vs) ids → Stands whole role.Extends (array vs)
      → (length ids ≤ 2) × AllByRecursion IsShortInterfaceId ids
  listed_parents_within vs ids all stands =
      let long = AllZip-long IsIdentifier (list_of vs) ids all in
      let valid = stands_valid whole none role.Extends (array vs) stands in
      let not_many : 2 < length (list_of vs) → ⊥ = λ many. here role.Extends (array vs) rule.TooManyParents valid (refl, many) in (
        omega (arith, not_many),
        parents_within vs ids all (λ i v at. entry_stands whole role.Extends vs i role.Parent v refl at stands),
      )

  extends_within : (o : Option Json) (ids : List Identifier) → HasParents o ids → ((v : Json) → o ≡ Some v → Stands whole role.Extends v)
      → (length ids ≤ 2) × AllByRecursion IsShortInterfaceId ids
  extends_within None ids has stands = subst (λ (xs : List Identifier). (length xs ≤ 2) × AllByRecursion IsShortInterfaceId xs) (sym has) (lit≤ tt, tt)
  extends_within (Some v) ids (inl has) stands =
      let valid = stands_valid whole none role.Extends v (stands v refl) in
      subst (λ (xs : List Identifier). (length xs ≤ 2) × AllByRecursion IsShortInterfaceId xs) (sym has.1)
      (lit≤ tt, (short_interface_id role.Extends v has.0 (λ bytes. refl) has.2 valid, tt))
  extends_within (Some v) ids (inr has) stands = listed_parents_within has.0 ids has.2 (subst (Stands whole role.Extends) has.1 (stands v refl))

  contents_within : (vs : Elements Number) (cs : List Content) → AllZip IsContentEntry (list_of vs) cs
      → ((i : ℕ) (v : Json) → element_at vs i ≡ Some v → Stands whole role.Content v)
      → AllByRecursion (λ c. ContentIsWithin (content_term c)) cs
  contents_within no_elements [] all stands = tt
  contents_within no_elements (c ∷ cs) all stands = absurd all
  contents_within (element v vs) [] all stands = absurd all
  contents_within (element v vs) (c ∷ cs) all stands =
      let first = stands zero v refl in (
        content_within (content_term c) v all.0.0 all.0.1 first,
        contents_within vs cs all.1 (λ i w at. stands (suc i) w at),
      )

  list_of_contents_within : (vs : Elements Number) (cs : List Content) → AllZip IsContentEntry (list_of vs) cs → Stands whole role.Contents (array vs)
      → (length cs ≤ 300) × AllByRecursion (λ c. ContentIsWithin (content_term c)) cs
  list_of_contents_within vs cs all stands =
      let long = AllZip-long IsContentEntry (list_of vs) cs all in
      let valid = stands_valid whole none role.Contents (array vs) stands in
      let not_many : 300 < length (list_of vs) → ⊥ = λ many. here role.Contents (array vs) rule.TooManyContents valid (refl, many) in (
        omega (arith, not_many),
        contents_within vs cs all (λ i v at. entry_stands whole role.Contents vs i role.Content v refl at stands),
      )

  no_contents_within : (vs : Elements Number) (cs : List Content) → vs ≡ no_elements → AllZip IsContentEntry (list_of vs) cs
      → (length cs ≤ 300) × AllByRecursion (λ c. ContentIsWithin (content_term c)) cs
  no_contents_within no_elements [] is all = (lit≤ tt, tt)
  no_contents_within no_elements (c ∷ cs) is all = absurd all
  no_contents_within (element v vs) cs is all = absurd cc

  optional_contents_within : (o : Option Json) (cs : List Content) → HasContents o cs → ((v : Json) → o ≡ Some v → Stands whole role.Contents v)
      → (length cs ≤ 300) × AllByRecursion (λ c. ContentIsWithin (content_term c)) cs
  optional_contents_within None cs has stands = no_contents_within has.0 cs has.1 has.2
  optional_contents_within (Some v) cs has stands = list_of_contents_within has.0 cs has.2 (subst (Stands whole role.Contents) has.1 (stands v refl))

  schemas_within : (vs : Elements Number) (ss : List Schema) → AllZip (λ v s. IsSchema (schema_term s) v) (list_of vs) ss
      → ((i : ℕ) (v : Json) → element_at vs i ≡ Some v → Stands whole role.NamedSchema v) → AllByRecursion (λ s. OuterSchemaIsWithin (schema_term s)) ss
  schemas_within no_elements [] all stands = tt
  schemas_within no_elements (s ∷ ss) all stands = absurd all
  schemas_within (element v vs) [] all stands = absurd all
  schemas_within (element v vs) (s ∷ ss) all stands = (
    outer_within (schema_term s) role.NamedSchema v (inr (inr refl)) all.0 (stands zero v refl),
    schemas_within vs ss all.1 (λ i w at. stands (suc i) w at),
  )

  optional_schemas_within : (o : Option Json) (ss : List Schema) → HasSchemas o ss → ((v : Json) → o ≡ Some v → Stands whole role.Schemas v)
      → AllByRecursion (λ s. OuterSchemaIsWithin (schema_term s)) ss
  optional_schemas_within None ss has stands = schemas_within has.0 ss has.2 (λ i v at. absurd (nothing_in has.0 i v has.1 at))
  optional_schemas_within (Some v) ss has stands =
      let listed = subst (Stands whole role.Schemas) has.1 (stands v refl) in
      schemas_within has.0 ss has.2 (λ i w at. entry_stands whole role.Schemas has.0 i role.NamedSchema w refl at listed)

  pub interface_within : (ms : Members Number) (i : Interface) → whole ≡ object ms → DeclaresInterface ms i → IsWithinLimits i
  interface_within ms i is g =
      let r : Role = role.Interface in
      let e = element_kind.Interface in
      let stands = subst (Stands whole r) is (itself whole) in
      let extended = extends_within (value_at (codes "extends") ms) i.parents g.parents
      (λ v at. key_stands whole r ms e key.Extends (codes "extends") v refl refl at stands) in
      let contained = optional_contents_within (value_at (codes "contents") ms) i.contents g.contents
      (λ v at. key_stands whole r ms e key.Contents (codes "contents") v refl refl at stands) in
      let named = key_stands whole r ms e key.Id (codes "@id") g.id.0 refl refl g.id.1 stands in
      record {
        id = short_interface_id role.InterfaceId g.id.0 i.id (λ bytes. refl) g.id.2 (stands_valid whole none role.InterfaceId g.id.0 named);
        comment = comment_within ms i.comment (λ v at. key_stands whole r ms e key.Comment (codes "comment") v refl refl at stands) g.comment;
        description = short_optional localized.Description (value_at (codes "description") ms) i.description.entries g.description
            (λ v at. stands_valid whole none (role.Localized localized.Description) v
            (key_stands whole r ms e key.Description (codes "description") v refl refl at stands));
        display_name = short_optional localized.DisplayName (value_at (codes "displayName") ms) i.display_name.entries g.display_name
            (λ v at. stands_valid whole none (role.Localized localized.DisplayName) v
            (key_stands whole r ms e key.DisplayName (codes "displayName") v refl refl at stands));
        few_parents = extended.0;
        parents = extended.1;
        few_contents = contained.0;
        contents = contained.1;
        schemas = optional_schemas_within (value_at (codes "schemas") ms) i.schemas g.schemas
            (λ v at. key_stands whole r ms e key.Schemas (codes "schemas") v refl refl at stands);
      }

-- The shapes of elements, by their roles in a value in which no rule is broken.
use Rattle.std.proofs.Common.{◌≡◌, ◌≢◌, ℕ, ◌⊎◌, inl, inr, List, [], ◌∷◌, Bool, true, Contains, Option, Some, None, option_and_then, codes, refl, sym, ap, subst, ◌∙◌, lit≤}
use Rattle.json_decimal.specs.Number.{Number}
use Rattle.json_tree.specs.Values.{Json, null, truth, number, text, array, object, Members}
use Rattle.json_tree.specs.Members.{text_in, value_at}
use Rattle.local_rules.specs.Tables.{key_text, required, types_of}
use Rattle.local_rules.specs.Roles.{element_member, element_of, entry_role, key_of, key_role, schema_of_values_named, position_of, schema_role, type_in, type_of, untyped_role, schema_of_values}
use Rattle.local_rules.specs.Kinds.{LacksKeyOf, is_of_kind, kind_of, needed_keys}
use Rattle.local_rules.specs.Types.{NamesNothing}
use Rattle.local_rules.specs.Levels.{IsPrimitiveName}
use Rattle.local_rules.specs.Quantities.{IsStringValue}
use Rattle.local_rules.specs.declared.key.Key.{Key}
use Rattle.local_rules.specs.declared.key.Key.TheVariants as key
use Rattle.local_rules.specs.declared.role.Element.{Element}
use Rattle.local_rules.specs.declared.role.Element.TheVariants as element
use Rattle.local_rules.specs.declared.role.Kind.TheVariants as kind
use Rattle.local_rules.specs.declared.role.Localized.TheVariants as localized
use Rattle.local_rules.specs.declared.role.PayloadUse.TheVariants as payload
use Rattle.local_rules.specs.declared.role.Position.{Position}
use Rattle.local_rules.specs.declared.role.Position.TheVariants as position
use Rattle.local_rules.specs.declared.role.Role.{Role}
use Rattle.local_rules.specs.declared.role.Role.TheVariants as role
use Rattle.local_rules.specs.declared.role.SchemaUse.TheVariants as schema_use
use Rattle.local_rules.specs.declared.role.ValueSchema.TheVariants as value_schemas
use Rattle.local_rules.specs.declared.rule.LocalRule.TheVariants as rule
use Rattle.local_rules.proofs.Among.{Among}
use Rattle.local_rules.proofs.Typed.{type_of_among}
use Rattle.local_rules.proofs.Wanted.{lacks_first}
use Rattle.json_decimal.specs.Decimals.{number_of}
use Rattle.json_decimal.specs.declared.decimal.Decimal.{Decimal}
use Rattle.json_tree.specs.View.{view, elements_view}
use Rattle.json_tree.specs.declared.tree.Tree.{Tree}
use Rattle.json_tree.specs.declared.tree.Tree as variants
use Rattle.json_tree.proofs.Views.{view-Null, view-Bool, view-Number, view-List}
use Rattle.model_read.specs.Machinery.Shapes.{ArrayShape, CanBeEnumValue, CanBeId, CanBeMultiplicity, CanBeName, CanBeTypes, CanBeValueSchema, CommonShape, CommandShape, ComponentShape, ContentShape, EnumEntryShape, EnumerationShape, HasMember, InterfaceShape, IsListOf, IsObject, IsParents, IsValid, IsValidContent, IsValidEnumEntry, IsValidInterface, IsValidPayload, IsValidProperty, IsValidSchema, IsTruth, IsWords, KindShape, MapShape, MayHave, ObjectShape, PayloadShape, PropertyShape, RelationshipPropertyShape, RelationshipShape, SchemaShape, TelemetryShape}
use Rattle.model_read.proofs.Leaves as leaves
use Rattle.model_read.proofs.Valid.{entry_valid, has_key, here, member_valid, keyed_valid, of_kind}

-- ---- values by their kinds
object_kind : (v : Json) → is_of_kind kind.Object v ≡ true → IsObject v
object_kind (object ms) is = (ms, refl)
object_kind null is = absurd cc
object_kind (truth b) is = absurd cc
object_kind (number n) is = absurd cc
object_kind (text bytes) is = absurd cc
object_kind (array vs) is = absurd cc

is_object : (r : Role) (v : Json) → kind_of r ≡ kind.Object → IsValid r v → IsObject v
is_object r v of valid = object_kind v (ap (λ k. is_of_kind k v) (sym of) ∙ of_kind r v valid)

-- each entry of a list in this role is of the property that its own role gives
abbrev Entries : Role → (Json → Type 0) → Type 0
Entries r P = (s : Role) × (entry_role r ≡ Some s) × ((w : Json) → IsValid s w → P w)

list_kind : (r : Role) (P : Json → Type 0) (v : Json) → Entries r P → is_of_kind kind.List v ≡ true → IsValid r v → IsListOf P v
list_kind r P (array vs) entry is valid = (vs, refl, λ i w at. entry.2 w (entry_valid r vs i entry.0 w entry.1 at valid))
list_kind r P null entry is valid = absurd cc
list_kind r P (truth b) entry is valid = absurd cc
list_kind r P (number n) entry is valid = absurd cc
list_kind r P (text bytes) entry is valid = absurd cc
list_kind r P (object ms) entry is valid = absurd cc

is_list : (r : Role) (P : Json → Type 0) → kind_of r ≡ kind.List → Entries r P → (v : Json) → IsValid r v → IsListOf P v
is_list r P of entry v valid = list_kind r P v entry (ap (λ k. is_of_kind k v) (sym of) ∙ of_kind r v valid) valid

-- ---- elements by their kinds, whatever roles they stand in
module _ (r : Role) (ms : Members Number) (valid : IsValid r (object ms)) where
  -- what holds of each value in a key's role holds of the value under the key
  may_have : (e : Element) (k : Key) (P : Json → Type 0) → element_of r ms ≡ Some e → key_of e (key_text k) ≡ Some k
      → ((v : Json) → IsValid (key_role r e ms k) v → P v) → MayHave P (key_text k) ms
  may_have e k P is known leaf = λ v at. leaf v (member_valid r ms e k (key_text k) v is known at valid)

  has : (e : Element) (k : Key) (P : Json → Type 0) → element_of r ms ≡ Some e → key_of e (key_text k) ≡ Some k → Contains (required e) k
      → ((v : Json) → IsValid (key_role r e ms k) v → P v) → HasMember P (key_text k) ms
  has e k P is known needed leaf = (has_key r ms e k is needed valid, may_have e k P is known leaf)

  -- the members that every element but an interface may have
  common_shape : (e : Element) → element_of r ms ≡ Some e → e ≢ element.Interface → CommonShape ms
  common_shape element.Interface is other = absurd (other refl)
  common_shape e is other = record {
    id = may_have e key.Id CanBeId is refl leaves.element_id;
    comment = may_have e key.Comment IsStringValue is refl leaves.comment;
    description = may_have e key.Description IsWords is refl (leaves.localized localized.Description);
    display_name = may_have e key.DisplayName IsWords is refl (leaves.localized localized.DisplayName);
  }

  -- where an object's `@type` decides what it is, it names a type of the position
  type_valid : (p : Position) (v : Json) → element_of r ms ≡ None → untyped_role r (codes "@type") ≡ Some (role.Type p)
      → value_at (codes "@type") ms ≡ Some v → IsValid (role.Type p) v
  type_valid p v none untyped at = keyed_valid r ms (role.Type p) (codes "@type") v at
      (ap (λ (o : Option Element). element_member r ms o (codes "@type")) none ∙ untyped) valid

  named_type : (p : Position) → element_of r ms ≡ type_of p ms → needed_keys r None ≡ key.Type ∷ [] → untyped_role r (codes "@type") ≡ Some (role.Type p)
      → ((v : Json) → type_in p v ≡ None → NamesNothing p v) → type_of p ms ≢ None
  named_type p decides needed untyped nothing none =
      let lacking : element_of r ms ≡ None = decides ∙ none in
      elim (value_at (codes "@type") ms) as (λ t. value_at (codes "@type") ms ≡ t → option_and_then (type_in p) t ≡ None → ⊥) [
        | None ↦ λ at named. here r (object ms) rule.MissingKey valid
            (subst (λ keys. LacksKeyOf keys ms) (sym (ap (needed_keys r) lacking ∙ needed)) (lacks_first key.Type [] ms at))
        | Some v ↦ λ at named. here (role.Type p) v rule.BadType (type_valid p v lacking untyped at) (p, refl, nothing v named)
      ] refl none

  array_shape : element_of r ms ≡ Some element.Array → ArrayShape ms
  array_shape is = record {
    common = common_shape element.Array is (λ other. absurd cc);
    element = has element.Array key.ElementSchema IsValidSchema is refl (1, lit≤ tt, refl) (λ v s. inr (schema_use.Inner, s));
  }

  -- the `valueSchema` of an enum asks for one kind of values
  kind_at : (v : Json) → value_at (codes "valueSchema") ms ≡ Some v → IsValid role.ValueSchema v → schema_of_values ms ≢ value_schemas.Neither
  kind_at v at schema neither = leaves.value_schema v schema (λ is. elim is [
    | inl word ↦ (let given = ap (λ o. schema_of_values_named (option_and_then text_in o)) (at ∙ ap (λ w. Some w) word) in cc)
    | inr integer ↦ (let given = ap (λ o. schema_of_values_named (option_and_then text_in o)) (at ∙ ap (λ w. Some w) integer) in cc)
  ])

  asks_kind : element_of r ms ≡ Some element.Enumeration → schema_of_values ms ≢ value_schemas.Neither
  asks_kind is = elim (value_at (codes "valueSchema") ms) as (λ o. value_at (codes "valueSchema") ms ≡ o → schema_of_values ms ≢ value_schemas.Neither) [
    | None ↦ λ none. absurd (has_key r ms element.Enumeration key.ValueSchema is (2, lit≤ tt, refl) valid none)
    | Some v ↦ λ at. kind_at v at (member_valid r ms element.Enumeration key.ValueSchema (codes "valueSchema") v is refl at valid)
  ] refl

  enumeration_shape : element_of r ms ≡ Some element.Enumeration → EnumerationShape ms
  enumeration_shape is = record {
    common = common_shape element.Enumeration is (λ other. absurd cc);
    value_schema = has element.Enumeration key.ValueSchema CanBeValueSchema is refl (2, lit≤ tt, refl) leaves.value_schema;
    values = has element.Enumeration key.EnumValues (IsListOf IsValidEnumEntry) is refl (1, lit≤ tt, refl)
        (is_list (role.EnumValues (schema_of_values ms)) IsValidEnumEntry refl (
          role.EnumEntry (schema_of_values ms),
          refl,
          λ w s. (schema_of_values ms, asks_kind is, s),
        ));
  }

  map_shape : element_of r ms ≡ Some element.Map → MapShape ms
  map_shape is = record {
    common = common_shape element.Map is (λ other. absurd cc);
    key = has element.Map key.MapKey IsValidPayload is refl (1, lit≤ tt, refl) (λ v s. inl (payload.MapKey, s));
    value = has element.Map key.MapValue IsValidPayload is refl (2, lit≤ tt, refl) (λ v s. inl (payload.MapValue, s));
  }

  object_shape : element_of r ms ≡ Some element.Object → ObjectShape ms
  object_shape is = record {
    common = common_shape element.Object is (λ other. absurd cc);
    fields = has element.Object key.Fields (IsListOf IsValidPayload) is refl (1, lit≤ tt, refl)
        (is_list role.Fields IsValidPayload refl (role.Field, refl, λ w s. inr s));
  }

  schema_as : (e : Element) → Among e (types_of position.Schema) → element_of r ms ≡ Some e → SchemaShape (Some e) ms
  schema_as e (inl same) is = subst (λ x. SchemaShape (Some x) ms) (sym same) (array_shape (is ∙ ap (λ x. Some x) same))
  schema_as e (inr (inl same)) is = subst (λ x. SchemaShape (Some x) ms) (sym same) (enumeration_shape (is ∙ ap (λ x. Some x) same))
  schema_as e (inr (inr (inl same))) is = subst (λ x. SchemaShape (Some x) ms) (sym same) (map_shape (is ∙ ap (λ x. Some x) same))
  schema_as e (inr (inr (inr (inl same)))) is = subst (λ x. SchemaShape (Some x) ms) (sym same) (object_shape (is ∙ ap (λ x. Some x) same))
  schema_as e (inr (inr (inr (inr none)))) is = absurd none

  schema_by : element_of r ms ≡ type_of position.Schema ms → needed_keys r None ≡ key.Type ∷ []
      → untyped_role r (codes "@type") ≡ Some (role.Type position.Schema) → SchemaShape (type_of position.Schema ms) ms
  schema_by decides needed untyped = elim (type_of position.Schema ms) as (λ o. type_of position.Schema ms ≡ o → SchemaShape o ms) [
    | None ↦ λ none. absurd (named_type position.Schema decides needed untyped (λ v nothing. nothing) none)
    | Some e ↦ λ is. schema_as e (type_of_among position.Schema ms e is) (decides ∙ is)
  ] refl

  -- a command's payload, the key or the value of a map, or a field
  payload_by : element_of r ms ≡ Some element.Payload → ((v : Json) → IsValid (key_role r element.Payload ms key.Name) v → CanBeName v)
      → ((v : Json) → IsValid (schema_role r element.Payload) v → IsValidSchema v) → PayloadShape ms
  payload_by is name schema = record {
    name = has element.Payload key.Name CanBeName is refl (0, lit≤ tt, refl) name;
    common = common_shape element.Payload is (λ other. absurd cc);
    schema = has element.Payload key.Schema IsValidSchema is refl (1, lit≤ tt, refl) schema;
  }

  -- a property, which stands in `contents` or in a relationship's `properties`
  property_by : (p : Position) → element_of r ms ≡ Some element.Property → ((v : Json) → IsValid (schema_role r element.Property) v → IsValidSchema v)
      → ((v : Json) → IsValid (role.Type (position_of r)) v → CanBeTypes p v) → PropertyShape p ms
  property_by p is schema types = record {
    schema = has element.Property key.Schema IsValidSchema is refl (2, lit≤ tt, refl) schema;
    semantic = may_have element.Property key.Type (CanBeTypes p) is refl types;
    unit = may_have element.Property key.Unit CanBeName is refl leaves.unit;
    writable = may_have element.Property key.Writable IsTruth is refl leaves.writable;
  }

-- ---- schemas
pub schema_kind : (v : Json) → IsValidSchema v → IsStringValue v ⊎ IsObject v
schema_kind v (inl valid) = inr (is_object role.NamedSchema v refl valid)
schema_kind (text bytes) (inr valid) = inl (bytes, refl)
schema_kind (object ms) (inr valid) = inr (ms, refl)
schema_kind other (inr valid) = let is = of_kind (role.Schema valid.0) other valid.1 in absurd cc

-- so no other value is a schema
no_other : (v w : Json) → v ≡ w → (IsStringValue w ⊎ IsObject w → ⊥) → IsValidSchema v → ⊥
no_other v w is other valid = other (subst (λ (u : Json). IsStringValue u ⊎ IsObject u) is (schema_kind v valid))

pub no_schema : (t : Tree) → (t ≡ variants.Null) ⊎ ((b : Bool) × (t ≡ variants.Bool b)) ⊎ ((d : Decimal) × (t ≡ variants.Number d)) ⊎ ((ts : List Tree) × (t ≡ variants.List ts))
    → IsValidSchema (view t) → ⊥
no_schema t (inl e) valid = no_other (view t) null (ap view e ∙ view-Null) (λ is. elim is [ inl w ↦ (let q = w.1 in absurd cc) | inr o ↦ (let q = o.1 in absurd cc) ]) valid
no_schema t (inr (inl (b, e))) valid =
    no_other (view t) (truth b) (ap view e ∙ view-Bool b) (λ is. elim is [ inl w ↦ (let q = w.1 in absurd cc) | inr o ↦ (let q = o.1 in absurd cc) ]) valid
no_schema t (inr (inr (inl (d, e)))) valid =
    no_other (view t) (number (number_of d)) (ap view e ∙ view-Number d) (λ is. elim is [ inl w ↦ (let q = w.1 in absurd cc) | inr o ↦ (let q = o.1 in absurd cc) ]) valid
no_schema t (inr (inr (inr (ts, e)))) valid =
    no_other (view t) (array (elements_view ts)) (ap view e ∙ view-List ts) (λ is. elim is [ inl w ↦ (let q = w.1 in absurd cc) | inr o ↦ (let q = o.1 in absurd cc) ]) valid

pub schema_text : (bytes : List ℕ) → IsValidSchema (text bytes) → (IsPrimitiveName bytes → ⊥) → CanBeId (text bytes)
schema_text bytes (inl valid) none = let is = of_kind role.NamedSchema (text bytes) valid in absurd cc
schema_text bytes (inr valid) none = valid.1.named [] (role.Schema valid.0) (text bytes) (refl, refl) valid.0 bytes refl refl none

pub schema_shape : (ms : Members Number) → IsValidSchema (object ms) → SchemaShape (type_of position.Schema ms) ms
schema_shape ms (inl valid) = schema_by role.NamedSchema ms valid refl refl refl
schema_shape ms (inr valid) = schema_by (role.Schema valid.0) ms valid.1 refl refl refl

pub payload_object : (v : Json) → IsValidPayload v → IsObject v
payload_object v (inl valid) = is_object (role.Payload valid.0) v refl valid.1
payload_object v (inr valid) = is_object role.Field v refl valid

pub payload_shape : (ms : Members Number) → IsValidPayload (object ms) → PayloadShape ms
payload_shape ms (inl (payload.Command, valid)) =
    payload_by (role.Payload payload.Command) ms valid refl leaves.name (λ v s. inr (schema_use.Outer, s))
payload_shape ms (inl (payload.MapKey, valid)) =
    payload_by (role.Payload payload.MapKey) ms valid refl leaves.name (λ v s. inr (schema_use.MapKey, s))
payload_shape ms (inl (payload.MapValue, valid)) =
    payload_by (role.Payload payload.MapValue) ms valid refl leaves.name (λ v s. inr (schema_use.Inner, s))
payload_shape ms (inr valid) = payload_by role.Field ms valid refl leaves.name (λ v s. inr (schema_use.Inner, s))

pub enum_entry_object : (v : Json) → IsValidEnumEntry v → IsObject v
enum_entry_object v (k, asks, valid) = is_object (role.EnumEntry k) v refl valid

pub enum_entry_shape : (ms : Members Number) → IsValidEnumEntry (object ms) → EnumEntryShape ms
enum_entry_shape ms (k, asks, valid) =
    let r = role.EnumEntry k in
    record {
      name = has r ms valid element.EnumEntry key.Name CanBeName refl refl (1, lit≤ tt, refl) leaves.name;
      common = common_shape r ms valid element.EnumEntry refl (λ other. absurd cc);
      value = has r ms valid element.EnumEntry key.EnumValue CanBeEnumValue refl refl (0, lit≤ tt, refl) (λ v s. leaves.enum_value k v asks s);
    }

-- ---- contents
pub content_object : (v : Json) → IsValidContent v → IsObject v
content_object v valid = is_object role.Content v refl valid

module _ (ms : Members Number) (valid : IsValid role.Content (object ms)) where
  telemetry_shape : type_of position.Content ms ≡ Some element.Telemetry → TelemetryShape position.Content ms
  telemetry_shape is =
      let r = role.Content in
      record {
        schema = has r ms valid element.Telemetry key.Schema IsValidSchema is refl (2, lit≤ tt, refl) (λ v s. inr (schema_use.Outer, s));
        semantic = may_have r ms valid element.Telemetry key.Type (CanBeTypes position.Content) is refl leaves.content_types;
        unit = may_have r ms valid element.Telemetry key.Unit CanBeName is refl leaves.unit;
      }

  content_property_shape : type_of position.Content ms ≡ Some element.Property → PropertyShape position.Content ms
  content_property_shape is = property_by role.Content ms valid position.Content is (λ v s. inr (schema_use.Property, s)) leaves.content_types

  command_shape : type_of position.Content ms ≡ Some element.Command → CommandShape ms
  command_shape is =
      let r = role.Content in
      record {
        request = may_have r ms valid element.Command key.Request IsValidPayload is refl (λ v s. inl (payload.Command, s));
        response = may_have r ms valid element.Command key.Response IsValidPayload is refl (λ v s. inl (payload.Command, s));
      }

  relationship_shape : type_of position.Content ms ≡ Some element.Relationship → RelationshipShape ms
  relationship_shape is =
      let r = role.Content in
      record {
        target = may_have r ms valid element.Relationship key.Target CanBeId is refl leaves.interface_reference;
        properties = may_have r ms valid element.Relationship key.Properties (IsListOf IsValidProperty) is refl
            (is_list role.Properties IsValidProperty refl (role.RelationshipProperty, refl, λ w s. s));
        most = may_have r ms valid element.Relationship key.MaxMultiplicity CanBeMultiplicity is refl leaves.multiplicity;
        writable = may_have r ms valid element.Relationship key.Writable IsTruth is refl leaves.writable;
      }

  component_shape : type_of position.Content ms ≡ Some element.Component → ComponentShape ms
  component_shape is = record {
    of = has role.Content ms valid element.Component key.Schema CanBeId is refl (2, lit≤ tt, refl) leaves.interface_reference;
  }

  content_as : (e : Element) → type_of position.Content ms ≡ Some e → key_of e (key_text key.Name) ≡ Some key.Name → Contains (required e) key.Name
      → e ≢ element.Interface → KindShape (Some e) ms → ContentShape ms
  content_as e is known needed other shape = record {
    name = has role.Content ms valid e key.Name CanBeName is known needed leaves.name;
    common = common_shape role.Content ms valid e is other;
    kind = subst (λ o. KindShape o ms) (sym is) shape;
  }

  content_by : (e : Element) → Among e (types_of position.Content) → type_of position.Content ms ≡ Some e → ContentShape ms
  content_by e (inl same) named =
      let is : type_of position.Content ms ≡ Some element.Telemetry = named ∙ ap (λ x. Some x) same in
      content_as element.Telemetry is refl (1, lit≤ tt, refl) (λ other. absurd cc) (telemetry_shape is)
  content_by e (inr (inl same)) named =
      let is : type_of position.Content ms ≡ Some element.Property = named ∙ ap (λ x. Some x) same in
      content_as element.Property is refl (1, lit≤ tt, refl) (λ other. absurd cc) (content_property_shape is)
  content_by e (inr (inr (inl same))) named =
      let is : type_of position.Content ms ≡ Some element.Command = named ∙ ap (λ x. Some x) same in
      content_as element.Command is refl (1, lit≤ tt, refl) (λ other. absurd cc) (command_shape is)
  content_by e (inr (inr (inr (inl same)))) named =
      let is : type_of position.Content ms ≡ Some element.Relationship = named ∙ ap (λ x. Some x) same in
      content_as element.Relationship is refl (1, lit≤ tt, refl) (λ other. absurd cc) (relationship_shape is)
  content_by e (inr (inr (inr (inr (inl same))))) named =
      let is : type_of position.Content ms ≡ Some element.Component = named ∙ ap (λ x. Some x) same in
      content_as element.Component is refl (1, lit≤ tt, refl) (λ other. absurd cc) (component_shape is)
  content_by e (inr (inr (inr (inr (inr none))))) named = absurd none

pub content_shape : (ms : Members Number) → IsValidContent (object ms) → ContentShape ms
content_shape ms valid = elim (type_of position.Content ms) as (λ o. type_of position.Content ms ≡ o → ContentShape ms) [
  | None ↦ λ none. absurd (named_type role.Content ms valid position.Content refl refl refl (λ v nothing. nothing) none)
  | Some e ↦ λ is. content_by ms valid e (type_of_among position.Content ms e is) is
] refl

pub property_object : (v : Json) → IsValidProperty v → IsObject v
property_object v valid = is_object role.RelationshipProperty v refl valid

pub property_shape : (ms : Members Number) → IsValidProperty (object ms) → RelationshipPropertyShape ms
property_shape ms valid =
    let r = role.RelationshipProperty in
    record {
      name = has r ms valid element.Property key.Name CanBeName refl refl (1, lit≤ tt, refl) leaves.name;
      common = common_shape r ms valid element.Property refl (λ other. absurd cc);
      kind = property_by r ms valid position.Property refl (λ v s. inr (schema_use.Property, s)) leaves.property_types;
    }

-- ---- interfaces
pub interface_object : (v : Json) → IsValidInterface v → IsObject v
interface_object v valid = is_object role.Interface v refl valid

pub interface_shape : (ms : Members Number) → IsValidInterface (object ms) → InterfaceShape ms
interface_shape ms valid =
    let r = role.Interface in
    let e = element.Interface in
    record {
      id = has r ms valid e key.Id CanBeId refl refl (1, lit≤ tt, refl) leaves.interface_id;
      comment = may_have r ms valid e key.Comment IsStringValue refl refl leaves.comment;
      description = may_have r ms valid e key.Description IsWords refl refl (leaves.localized localized.Description);
      display_name = may_have r ms valid e key.DisplayName IsWords refl refl (leaves.localized localized.DisplayName);
      parents = may_have r ms valid e key.Extends IsParents refl refl leaves.parents;
      contents = may_have r ms valid e key.Contents (IsListOf IsValidContent) refl refl
          (is_list role.Contents IsValidContent refl (role.Content, refl, λ w s. s));
      schemas = may_have r ms valid e key.Schemas (IsListOf IsValidSchema) refl refl
          (is_list role.Schemas IsValidSchema refl (role.NamedSchema, refl, λ w s. inl s));
    }

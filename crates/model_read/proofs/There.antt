-- What a document without breach declares is there: schemas, payloads, contents and interfaces, part by part.
use Rattle.std.proofs.Common.{◌≡◌, ℕ, zero, suc, ◌+◌, ◌≤◌, ◌<◌, inl, inr, List, [], ◌∷◌, Bool, true, false, if◌then◌else◌, Option, Some, None, refl, sym, ap, ◌∙◌, subst, arith}
use Rattle.std.specs.Prelude.{codes}
use Rattle.std.specs.Option.{option_map}
use Rattle.std.specs.List.{AllZip}
use Rattle.std.specs.Str.{bytes_eq}
use Rattle.dt_base.specs.Existence.{IsThere}
use Rattle.dt_base.proofs.Existence.{holds_or_not, is_there}
use Rattle.json_decimal.specs.Number.{Number}
use Rattle.json_tree.specs.Values.{Json, null, truth, number, text, array, object, Elements, no_elements, element, Members, no_members, member}
use Rattle.json_tree.specs.Members.{list_of, value_at}
use Rattle.json_tree.specs.Places.{element_at}
use Rattle.dtdl_terms.specs.Terms.{SchemaTerm, KindTerm}
use Rattle.dtdl_terms.specs.TermViews.{schema_term, payload_term, payloads_term, kind_term, content_term, contents_term}
use Rattle.dtdl_terms.specs.declared.content.Content.{Content}
use Rattle.dtdl_terms.specs.declared.content.ContentKind.{ContentKind}
use Rattle.dtdl_terms.specs.declared.content.ContentKind as kinds
use Rattle.dtdl_terms.specs.declared.enumeration.EnumEntry.{EnumEntry}
use Rattle.dtdl_terms.specs.declared.interface.Interface.{Interface}
use Rattle.dtdl_terms.specs.declared.schema.Payload.{Payload}
use Rattle.dtdl_terms.specs.declared.schema.Schema.{Schema}
use Rattle.dtdl_terms.specs.declared.schema.Schema as schemas
use Rattle.dtdl_terms.proofs.TermViews.{term-Primitive, term-Named, term-Array, term-Enumeration, term-Map, term-Object, term-Telemetry, term-Property, term-Command, term-Relationship, term-Component}
use Rattle.local_rules.specs.Levels.{IsPrimitiveName}
use Rattle.local_rules.specs.Roles.{type_of}
use Rattle.local_rules.specs.Typed.{IsPropertyTerm, type_of_kind}
use Rattle.local_rules.specs.declared.role.Element.{Element}
use Rattle.local_rules.specs.declared.role.Element.TheVariants as element_kind
use Rattle.local_rules.specs.declared.role.Position.{Position}
use Rattle.local_rules.specs.declared.role.Position.TheVariants as position
use Rattle.local_rules.specs.Declarations.{HasSchema, HasPayload, HasOptionalPayload, IsEnumEntry, IsSchema, IsPayload, ArePayloads, AreEntriesOf, AreKind, IsContent, IsContentEntry, AreProperties, DeclaresInterface}
use Rattle.model_read.specs.Machinery.Shapes.{HasMember, IsListOf, IsValidContent, IsValidEnumEntry, IsValidInterface, IsValidPayload, IsValidProperty, IsValidSchema, KindShape, MayHave, PropertyShape, SchemaShape}
use Rattle.model_read.proofs.Shaped.{content_object, content_shape, interface_shape, payload_object, payload_shape, property_object, property_shape, schema_kind, schema_shape, schema_text}
use Rattle.model_read.proofs.ThereLeaves.{Some_of, last_there, next_there, common_there, each_there, enum_entry_there, has_there, id_there, list_there, localized_found, may_there, most_there, name_there, optional_id_there, optional_name_there, optional_text_there, parents_there, semantic_there, value_schema_there, writable_found}

-- ---- how much is in a value
abbrev mutual
  size : Json → ℕ
  size null = 0
  size (truth b) = 0
  size (number n) = 0
  size (text bytes) = 0
  size (array vs) = suc (elements_size vs)
  size (object ms) = suc (members_size ms)

  elements_size : Elements Number → ℕ
  elements_size no_elements = 0
  elements_size (element v vs) = size v + elements_size vs

  members_size : Members Number → ℕ
  members_size no_members = 0
  members_size (member k v ms) = size v + members_size ms

same_some : (v w : Json) → Some v ≡ Some w → v ≡ w
same_some v w e = cc

under_size : (key : List ℕ) (ms : Members Number) (v : Json) → value_at key ms ≡ Some v → size v ≤ members_size ms
under_size key no_members v at = absurd (let e : None ≡ Some v = at in cc)
under_size key (member k w ms) v at = by (bytes_eq k key) (under_size key ms v) at
  where
    by : (b : Bool) → (value_at key ms ≡ Some v → size v ≤ members_size ms) → (if b then Some w else value_at key ms) ≡ Some v → size v ≤ size w + members_size ms
    by true later e = let same : size w ≡ size v = ap size (same_some w v e) in omega arith
    by false later e = let less = later e in omega arith

entry_size : (vs : Elements Number) (i : ℕ) (v : Json) → element_at vs i ≡ Some v → size v ≤ elements_size vs
entry_size no_elements i v at = absurd (let e : None ≡ Some v = at in cc)
entry_size (element w vs) zero v at = let same : size w ≡ size v = ap size (same_some w v at) in omega arith
entry_size (element w vs) (suc i) v at = let less = entry_size vs i v at in omega arith

-- ---- what is there of a value, by the role that it is valid in
abbrev ASchema : Json → Type 0
ASchema v = (s : Schema) × IsSchema (schema_term s) v

abbrev APayload : Json → Type 0
APayload v = (p : Payload) × IsPayload (payload_term p) v

abbrev AProperty : Json → Type 0
AProperty v = (c : Content) × (IsContent position.Property (content_term c) v × IsPropertyTerm (content_term c))

record There (v : Json) : Type 0 where
  schema : IsValidSchema v → IsThere (ASchema v)
  payload : IsValidPayload v → IsThere (APayload v)
  property : IsValidProperty v → IsThere (AProperty v)

text_schema : (bytes : List ℕ) → IsValidSchema (text bytes) → IsThere (ASchema (text bytes))
text_schema bytes valid = next_there (ASchema (text bytes)) (holds_or_not (IsPrimitiveName bytes)) (λ one. elim one [
  | inl is ↦
      (let it : ASchema (text bytes) = (schemas.Primitive is.0, subst (λ (t : SchemaTerm). IsSchema t (text bytes)) (sym (term-Primitive is.0)) (ap text (sym is.1))) in is_there it)
  | inr none ↦
      last_there (ASchema (text bytes)) (schema_text bytes valid none) (λ h. (schemas.Named h.0, subst (λ (t : SchemaTerm). IsSchema t (text bytes)) (sym (term-Named h.0)) h.1))
])

payloads_there : (vs : Elements Number) → ((i : ℕ) (v : Json) → element_at vs i ≡ Some v → IsThere (APayload v))
    → IsThere (Some_of (List Payload) (λ ps. ArePayloads (payloads_term ps) vs))
payloads_there no_elements each = let it : Some_of (List Payload) (λ ps. ArePayloads (payloads_term ps) no_elements) = ([], tt) in is_there it
payloads_there (element v vs) each =
    next_there (Some_of (List Payload) (λ ps. ArePayloads (payloads_term ps) (element v vs))) (each zero v refl) (λ one.
    last_there (Some_of (List Payload) (λ ps. ArePayloads (payloads_term ps) (element v vs))) (payloads_there vs (λ i w at. each (suc i) w at))
    (λ rest. (one.0 ∷ rest.0, (one.1, rest.1))))

properties_there : (vs : Elements Number) → ((i : ℕ) (v : Json) → element_at vs i ≡ Some v → IsThere (AProperty v))
    → IsThere (Some_of (List Content) (λ cs. AreProperties (contents_term cs) vs))
properties_there no_elements each = let it : Some_of (List Content) (λ cs. AreProperties (contents_term cs) no_elements) = ([], tt) in is_there it
properties_there (element v vs) each =
    next_there (Some_of (List Content) (λ cs. AreProperties (contents_term cs) (element v vs))) (each zero v refl) (λ one.
    last_there (Some_of (List Content) (λ cs. AreProperties (contents_term cs) (element v vs))) (properties_there vs (λ i w at. each (suc i) w at))
    (λ rest. (one.0 ∷ rest.0, (one.1, rest.1))))

module _ (ms : Members Number) (inner : (w : Json) → size w ≤ members_size ms → There w) where
  under : (key : List ℕ) (v : Json) → value_at key ms ≡ Some v → There v
  under key v at = inner v (under_size key ms v at)

  among : (key : List ℕ) (vs : Elements Number) (i : ℕ) (v : Json) → value_at key ms ≡ Some (array vs) → element_at vs i ≡ Some v → There v
  among key vs i v at is = inner v (let whole = under_size key ms (array vs) at in let part = entry_size vs i v is in omega arith)

  schema_under : (key : List ℕ) → HasMember IsValidSchema key ms → IsThere (Some_of Schema (λ s. HasSchema key ms (schema_term s)))
  schema_under key has = has_there key ms IsValidSchema (λ (s : Schema). HasSchema key ms (schema_term s))
      (λ v at valid. last_there (Some_of Schema (λ s. HasSchema key ms (schema_term s))) ((under key v at).schema valid) (λ h. (h.0, (v, at, h.1)))) has

  payload_under : (key : List ℕ) → HasMember IsValidPayload key ms → IsThere (Some_of Payload (λ p. HasPayload key ms (payload_term p)))
  payload_under key has = has_there key ms IsValidPayload (λ (p : Payload). HasPayload key ms (payload_term p))
      (λ v at valid. last_there (Some_of Payload (λ p. HasPayload key ms (payload_term p))) ((under key v at).payload valid) (λ h. (h.0, (v, at, h.1)))) has

  -- ---- schemas
  abbrev EntriesUnder : List EnumEntry → Type 0
  EntriesUnder es = (vs : Elements Number) × (value_at (codes "enumValues") ms ≡ Some (array vs)) × AllZip IsEnumEntry (list_of vs) es

  abbrev FieldsUnder : List Payload → Type 0
  FieldsUnder ps = (vs : Elements Number) × (value_at (codes "fields") ms ≡ Some (array vs)) × ArePayloads (payloads_term ps) vs

  entries_under : HasMember (IsListOf IsValidEnumEntry) (codes "enumValues") ms → IsThere (Some_of (List EnumEntry) EntriesUnder)
  entries_under has = has_there (codes "enumValues") ms (IsListOf IsValidEnumEntry) EntriesUnder
      (λ v at list. last_there (Some_of (List EnumEntry) EntriesUnder) (each_there IsEnumEntry list.0 (λ i w there. enum_entry_there w (list.2 i w there)))
      (λ es. (es.0, (list.0, at ∙ ap Some list.1, es.1)))) has

  fields_under : HasMember (IsListOf IsValidPayload) (codes "fields") ms → IsThere (Some_of (List Payload) FieldsUnder)
  fields_under has = has_there (codes "fields") ms (IsListOf IsValidPayload) FieldsUnder
      (λ v at list. last_there (Some_of (List Payload) FieldsUnder)
      (payloads_there list.0 (λ i w there. (among (codes "fields") list.0 i w (at ∙ ap Some list.1) there).payload (list.2 i w there)))
      (λ ps. (ps.0, (list.0, at ∙ ap Some list.1, ps.1)))) has

  schema_by : (t : Option Element) → type_of position.Schema ms ≡ t → SchemaShape t ms → IsThere (ASchema (object ms))
  schema_by (Some element_kind.Array) is shape =
      next_there (ASchema (object ms)) (common_there ms shape.common) (λ c.
      last_there (ASchema (object ms)) (schema_under (codes "elementSchema") shape.element) (λ s. (
        schemas.Array c.0 s.0,
        subst (λ (t : SchemaTerm). IsSchema t (object ms)) (sym (term-Array c.0 s.0)) (ms, s.1.0, (refl, is), c.1, s.1.1, s.1.2),
      )))
  schema_by (Some element_kind.Enumeration) is shape =
      next_there (ASchema (object ms)) (common_there ms shape.common) (λ c.
      next_there (ASchema (object ms)) (value_schema_there ms shape.value_schema) (λ b.
      last_there (ASchema (object ms)) (entries_under shape.values) (λ es. (
        schemas.Enumeration c.0 b.0 es.0,
        subst (λ (t : SchemaTerm). IsSchema t (object ms)) (sym (term-Enumeration c.0 b.0 es.0)) (ms, es.1.0, (refl, is), c.1, b.1, es.1.1, es.1.2),
      ))))
  schema_by (Some element_kind.Map) is shape =
      next_there (ASchema (object ms)) (common_there ms shape.common) (λ c.
      next_there (ASchema (object ms)) (payload_under (codes "mapKey") shape.key) (λ k.
      last_there (ASchema (object ms)) (payload_under (codes "mapValue") shape.value) (λ e. (
        schemas.Map c.0 k.0 e.0,
        subst (λ (t : SchemaTerm). IsSchema t (object ms)) (sym (term-Map c.0 k.0 e.0)) (ms, k.1.0, e.1.0, (refl, is), c.1, k.1.1, k.1.2, e.1.1, e.1.2),
      ))))
  schema_by (Some element_kind.Object) is shape =
      next_there (ASchema (object ms)) (common_there ms shape.common) (λ c.
      last_there (ASchema (object ms)) (fields_under shape.fields) (λ ps. (
        schemas.Object c.0 ps.0,
        subst (λ (t : SchemaTerm). IsSchema t (object ms)) (sym (term-Object c.0 ps.0)) (ms, ps.1.0, (refl, is), c.1, ps.1.1, ps.1.2),
      )))
  schema_by other is shape = absurd shape

  schema_of : IsValidSchema (object ms) → IsThere (ASchema (object ms))
  schema_of valid = schema_by (type_of position.Schema ms) refl (schema_shape ms valid)

  -- ---- payloads
  payload_of : IsValidPayload (object ms) → IsThere (APayload (object ms))
  payload_of valid =
      let shape = payload_shape ms valid in
      next_there (APayload (object ms)) (name_there (codes "name") ms shape.name) (λ n.
      next_there (APayload (object ms)) (common_there ms shape.common) (λ c.
      last_there (APayload (object ms)) (schema_under (codes "schema") shape.schema) (λ s.
      (record { name = n.0; common = c.0; schema = s.0 }, (ms, s.1.0, refl, n.1, c.1, s.1.1, s.1.2)))))

  optional_payload : (key : List ℕ) → MayHave IsValidPayload key ms → IsThere (Some_of (Option Payload) (λ o. HasOptionalPayload key ms (option_map payload_term o)))
  optional_payload key may = may_there key ms IsValidPayload (λ (o : Option Payload). HasOptionalPayload key ms (option_map payload_term o)) (λ is. is)
      (λ v at valid. last_there (Some_of Payload (λ p. HasPayload key ms (payload_term p))) ((under key v at).payload valid) (λ h. (h.0, (v, at, h.1)))) may

  -- ---- contents
  abbrev AsKind : Position → Element → KindTerm → Type 0
  AsKind p e k = AreKind p k ms × (type_of_kind k ≡ e)

  -- a kind, which this element is
  abbrev AKind : Position → Element → Type 0
  AKind p e = (k : ContentKind) × AsKind p e (kind_term k)

  property_kind : (p : Position) → PropertyShape p ms → IsThere (AKind p element_kind.Property)
  property_kind p shape =
      let w = writable_found (value_at (codes "writable") ms) shape.writable in
      next_there (AKind p element_kind.Property) (schema_under (codes "schema") shape.schema) (λ s.
      next_there (AKind p element_kind.Property) (semantic_there p ms shape.semantic) (λ a.
      last_there (AKind p element_kind.Property) (optional_name_there (codes "unit") ms shape.unit) (λ u. (
        kinds.Property s.0 a.0 u.0 w.0,
        subst (AsKind p element_kind.Property) (sym (term-Property s.0 a.0 u.0 w.0)) ((s.1, a.1, u.1, w.1), refl),
      ))))

  property_of : IsValidProperty (object ms) → IsThere (AProperty (object ms))
  property_of valid =
      let shape = property_shape ms valid in
      next_there (AProperty (object ms)) (name_there (codes "name") ms shape.name) (λ n.
      next_there (AProperty (object ms)) (common_there ms shape.common) (λ c.
      last_there (AProperty (object ms)) (property_kind position.Property shape.kind) (λ k.
      (record { name = n.0; common = c.0; kind = k.0 }, ((ms, refl, n.1, c.1, k.1.0), k.1.1)))))

  abbrev PropertiesIn : Option Json → List Content → Type 0
  PropertiesIn o cs = (vs : Elements Number) × AreEntriesOf o vs × AreProperties (contents_term cs) vs

  properties_of : (o : Option Json) → value_at (codes "properties") ms ≡ o → ((v : Json) → o ≡ Some v → IsListOf IsValidProperty v)
      → IsThere (Some_of (List Content) (PropertiesIn o))
  properties_of None at may = let it : Some_of (List Content) (PropertiesIn None) = ([], (no_elements, refl, tt)) in is_there it
  properties_of (Some v) at may =
      let list = may v refl in
      last_there (Some_of (List Content) (PropertiesIn (Some v)))
      (properties_there list.0 (λ i w there. (among (codes "properties") list.0 i w (at ∙ ap Some list.1) there).property (list.2 i w there)))
      (λ cs. (cs.0, (list.0, list.1, cs.1)))

  abbrev KindOf : Option Element → Type 0
  KindOf t = (e : Element) × (t ≡ Some e) × IsThere (AKind position.Content e)

  kind_by : (t : Option Element) → KindShape t ms → KindOf t
  kind_by (Some element_kind.Telemetry) shape = (
    element_kind.Telemetry,
    refl,
    next_there (AKind position.Content element_kind.Telemetry) (schema_under (codes "schema") shape.schema) (λ s.
        next_there (AKind position.Content element_kind.Telemetry) (semantic_there position.Content ms shape.semantic) (λ a.
        last_there (AKind position.Content element_kind.Telemetry) (optional_name_there (codes "unit") ms shape.unit) (λ u. (
          kinds.Telemetry s.0 a.0 u.0,
          subst (AsKind position.Content element_kind.Telemetry) (sym (term-Telemetry s.0 a.0 u.0)) ((s.1, a.1, u.1), refl),
        )))),
  )
  kind_by (Some element_kind.Property) shape = (element_kind.Property, refl, property_kind position.Content shape)
  kind_by (Some element_kind.Command) shape = (
    element_kind.Command,
    refl,
    next_there (AKind position.Content element_kind.Command) (optional_payload (codes "request") shape.request) (λ q.
        last_there (AKind position.Content element_kind.Command) (optional_payload (codes "response") shape.response) (λ r. (
          kinds.Command q.0 r.0,
          subst (AsKind position.Content element_kind.Command) (sym (term-Command q.0 r.0)) ((q.1, r.1), refl),
        ))),
  )
  kind_by (Some element_kind.Relationship) shape =
      let w = writable_found (value_at (codes "writable") ms) shape.writable in (
        element_kind.Relationship,
        refl,
        next_there (AKind position.Content element_kind.Relationship) (optional_id_there (codes "target") ms shape.target) (λ t.
            next_there (AKind position.Content element_kind.Relationship) (properties_of (value_at (codes "properties") ms) refl shape.properties) (λ cs.
            last_there (AKind position.Content element_kind.Relationship) (most_there ms shape.most) (λ m. (
              kinds.Relationship t.0 cs.0 m.0 w.0,
              subst (AsKind position.Content element_kind.Relationship) (sym (term-Relationship t.0 cs.0 m.0 w.0)) ((t.1, cs.1, m.1, w.1), refl),
            )))),
      )
  kind_by (Some element_kind.Component) shape = (
    element_kind.Component,
    refl,
    last_there (AKind position.Content element_kind.Component) (id_there (codes "schema") ms shape.of) (λ id. (
      kinds.Component id.0,
      subst (AsKind position.Content element_kind.Component) (sym (term-Component id.0)) (id.1, refl),
    )),
  )
  kind_by other shape = absurd shape

  content_of : IsValidContent (object ms) → IsThere (Some_of Content (IsContentEntry (object ms)))
  content_of valid =
      let shape = content_shape ms valid in
      let kind = kind_by (type_of position.Content ms) shape.kind in
      next_there (Some_of Content (IsContentEntry (object ms))) (name_there (codes "name") ms shape.name) (λ n.
      next_there (Some_of Content (IsContentEntry (object ms))) (common_there ms shape.common) (λ c.
      last_there (Some_of Content (IsContentEntry (object ms))) kind.2 (λ k.
      (record { name = n.0; common = c.0; kind = k.0 }, (kind.1 ∙ ap Some (sym k.1.1), (ms, refl, n.1, c.1, k.1.0))))))

-- ---- by what is smaller
smaller : (v : Json) (ms : Members Number) → v ≡ object ms → ((w : Json) → size w < size v → There w) → (w : Json) → size w ≤ members_size ms → There w
smaller v ms is inner = λ w le. inner w (let same : size v ≡ suc (members_size ms) = ap size is in omega arith)

step : (v : Json) → ((w : Json) → size w < size v → There w) → There v
step v inner = record {
  schema = λ valid. elim (schema_kind v valid) [
    | inl t ↦ subst (λ (u : Json). IsThere (ASchema u)) (sym t.1) (text_schema t.0 (subst IsValidSchema t.1 valid))
    | inr o ↦ subst (λ (u : Json). IsThere (ASchema u)) (sym o.1) (schema_of o.0 (smaller v o.0 o.1 inner) (subst IsValidSchema o.1 valid))
  ];
  payload = λ valid.
      let o = payload_object v valid in
      subst (λ (u : Json). IsThere (APayload u)) (sym o.1) (payload_of o.0 (smaller v o.0 o.1 inner) (subst IsValidPayload o.1 valid));
  property = λ valid.
      let o = property_object v valid in
      subst (λ (u : Json). IsThere (AProperty u)) (sym o.1) (property_of o.0 (smaller v o.0 o.1 inner) (subst IsValidProperty o.1 valid));
}

all_below : (n : ℕ) (v : Json) → size v < n → There v
all_below zero v less = absurd (omega arith)
all_below (suc n) v less = step v (λ w lesser. all_below n w (omega arith))

there : (v : Json) → There v
there v = all_below (suc (size v)) v (omega arith)

content_there : (v : Json) → IsValidContent v → IsThere (Some_of Content (IsContentEntry v))
content_there v valid =
    let o = content_object v valid in
    subst (λ (u : Json). IsThere (Some_of Content (IsContentEntry u))) (sym o.1) (content_of o.0 (λ w le. there w) (subst IsValidContent o.1 valid))

-- ---- interfaces
pub interface_there : (ms : Members Number) → IsValidInterface (object ms) → IsThere (Some_of Interface (DeclaresInterface ms))
interface_there ms valid =
    let shape = interface_shape ms valid in
    let description = localized_found (codes "description") ms shape.description in
    let display_name = localized_found (codes "displayName") ms shape.display_name in
    let One : Type 0 = Some_of Interface (DeclaresInterface ms) in
    next_there One (id_there (codes "@id") ms shape.id) (λ id.
    next_there One (optional_text_there (codes "comment") ms shape.comment) (λ comment.
    next_there One (parents_there (value_at (codes "extends") ms) shape.parents) (λ parents.
    next_there One (list_there IsContentEntry IsValidContent (value_at (codes "contents") ms) shape.contents (λ vs i v is at valid. content_there v valid)) (λ contents.
    last_there One (list_there (λ (v : Json) (s : Schema). IsSchema (schema_term s) v) IsValidSchema (value_at (codes "schemas") ms) shape.schemas (λ vs i v is at valid. (there v).schema valid))
    (λ schemas. (
      record {
        id = id.0;
        comment = comment.0;
        description = record { entries = description.0 };
        display_name = record { entries = display_name.0 };
        parents = parents.0;
        contents = contents.0;
        schemas = schemas.0;
      },
      record {
        id = id.1;
        comment = comment.1;
        description = description.1;
        display_name = display_name.1;
        parents = parents.1;
        contents = contents.1;
        schemas = schemas.1;
      },
    ))))))

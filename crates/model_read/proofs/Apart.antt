-- What an interface without breach declares has a declaration.
use Rattle.std.proofs.Common.{◌≡◌, ◌≢◌, ℕ, zero, suc, ◌<◌, inl, inr, List, [], ◌∷◌, ◌++◌, map, true, Option, Some, None, option_and_then, refl, sym, ap, subst, ◌∙◌, arith}
use Rattle.std.specs.Prelude.{Contains, IsSome, codes, slice_get}
use Rattle.std.specs.List.{AllByRecursion, AllZip}
use Rattle.dt_base.specs.names.Grammar.{Identifier, dtmi_text}
use Rattle.json_decimal.specs.Number.{Number}
use Rattle.json_tree.specs.Values.{Json, null, truth, number, text, array, object, Elements, no_elements, element, Members, no_members, member, LacksKey, HasDistinctKeys, ElementsHaveDistinctKeys, MembersHaveDistinctKeys}
use Rattle.json_tree.specs.Places.{IsBefore, element_at, member_at}
use Rattle.dtdl_terms.specs.Terms.{SchemaTerm, primitive, named, array_of, enumeration, map_of, object_of, PayloadTerm, payload, PayloadTerms, no_payloads, more_payloads, ContentTerm, content, KindTerm, telemetry, property, command, relationship, component, ContentTerms, no_contents, more_contents}
use Rattle.dtdl_terms.specs.Primitives.{primitive_name}
use Rattle.dtdl_terms.specs.TermViews.{schema_term, kind_term, content_term}
use Rattle.dtdl_terms.specs.Distinct.{AreDistinct, ContentIsDistinct, ContentsAreDistinct, HasDeclaration, HasDistinctLanguages, HasDistinctTexts, KindIsDistinct, OptionalPayloadIsDistinct, PayloadIsDistinct, PayloadsAreDistinct, SchemaIsDistinct, content_names, payload_names, schema_id}
use Rattle.dtdl_terms.specs.declared.common.Common.{Common}
use Rattle.dtdl_terms.specs.declared.common.Entry.{Entry}
use Rattle.dtdl_terms.specs.declared.common.Localized.{Localized}
use Rattle.dtdl_terms.specs.declared.content.Content.{Content}
use Rattle.dtdl_terms.specs.declared.enumeration.EnumEntry.{EnumEntry}
use Rattle.dtdl_terms.specs.declared.interface.Interface.{Interface}
use Rattle.dtdl_terms.specs.declared.schema.Schema.{Schema}
use Rattle.json_tree.specs.Members.{list_of, members_in, pairs_of, text_in, value_at}
use Rattle.local_rules.specs.Roles.{HasRole, element_of, entry_role, id_role, key_of, schema_role, type_of, schema_of_values}
use Rattle.local_rules.specs.Repeats.{IsInEntry, name_in, repeats_name, repeats_text}
use Rattle.local_rules.specs.Breaches.{BreaksByPlace}
use Rattle.local_rules.specs.declared.rule.LocalRule.{LocalRule}
use Rattle.local_rules.specs.Kinds.{LacksKeyOf, needed_keys}
use Rattle.local_rules.specs.declared.key.Key.TheVariants as key
use Rattle.local_rules.specs.declared.rule.LocalRule.TheVariants as rule
use Rattle.local_rules.specs.declared.role.Element.{Element}
use Rattle.local_rules.specs.declared.role.Element.TheVariants as element_kind
use Rattle.local_rules.specs.declared.role.PayloadUse.TheVariants as payload_use
use Rattle.local_rules.specs.declared.role.Position.TheVariants as position
use Rattle.local_rules.specs.declared.role.Role.{Role}
use Rattle.local_rules.specs.declared.role.Role.TheVariants as role
use Rattle.local_rules.specs.declared.role.SchemaUse.TheVariants as schema_use
use Rattle.local_rules.specs.declared.role.ValueSchema.{ValueSchema}
use Rattle.json_tree.proofs.Keyed.{position_of_key}
use Rattle.local_rules.specs.Declarations.{ArePayloads, AreProperties, AreEntriesOf, AreKind, DeclaresInterface, HasCommon, HasContents, HasKindOf, HasLocalized, HasOptionalId, HasOptionalPayload, HasParents, HasSchemas, HasString, IsContent, IsContentEntry, IsEnumEntry, IsIdentifier, IsLocalized, IsLocalizedBy, IsPayload, IsSchema, IsTextOfLanguage}
use Rattle.local_rules.specs.Typed.{IsPropertyTerm, type_of_kind}
use Rattle.model_read.proofs.Valid.{here, of_kind}
use Rattle.model_read.proofs.Pairs.{apart, distinct_pairs, mapped_back, zip_at}
use Rattle.model_read.proofs.Standing.{BreaksNowhere, Stands, entry_at, entry_stands, itself, key_at, key_stands, stands_valid}
use Rattle.model_read.proofs.Within.{IsPayloadRole, IsSchemaRole, name_known, payload_element, payload_schema, schema_element}

-- ---- distinct keys in the parts of a value
placed_distinct : (ms : Members Number) (i : ℕ) (k : List ℕ) (v : Json) → member_at ms i ≡ Some (k, v) → MembersHaveDistinctKeys ms → HasDistinctKeys v
placed_distinct no_members i k v at keys = absurd cc
placed_distinct (member l w ms) zero k v at keys =
    let pair : (l, w) ≡ (k, v) = cc in
    let same : w ≡ v = ap (λ (m : List ℕ × Json). m.1) pair in subst HasDistinctKeys same keys.1
placed_distinct (member l w ms) (suc i) k v at keys = placed_distinct ms i k v at keys.2

keyed_distinct : (k : List ℕ) (ms : Members Number) (v : Json) → value_at k ms ≡ Some v → MembersHaveDistinctKeys ms → HasDistinctKeys v
keyed_distinct k ms v at keys = let p = position_of_key k ms v at in placed_distinct ms p.0 k v p.1 keys

pub element_distinct : (vs : Elements Number) (i : ℕ) (v : Json) → element_at vs i ≡ Some v → ElementsHaveDistinctKeys vs → HasDistinctKeys v
element_distinct no_elements i v at keys = absurd cc
element_distinct (element w vs) zero v at keys = let same : w ≡ v = cc in subst HasDistinctKeys same keys.0
element_distinct (element w vs) (suc i) v at keys = element_distinct vs i v at keys.1

listed_distinct : (k : List ℕ) (ms : Members Number) (vs : Elements Number) → value_at k ms ≡ Some (array vs) → MembersHaveDistinctKeys ms
    → ElementsHaveDistinctKeys vs
listed_distinct k ms vs at keys = keyed_distinct k ms (array vs) at keys

-- ---- languages
other_languages : (k language : List ℕ) (ms : Members Number) (es : List Entry) → k ≡ language → LacksKey k ms → AllZip IsTextOfLanguage (pairs_of ms) es
    → AllByRecursion (λ l. language ≢ l) (map (λ e. e.language) es)
other_languages k language no_members [] is lacks all = tt
other_languages k language no_members (e ∷ es) is lacks all = absurd all
other_languages k language (member l v ms) [] is lacks all = absurd all
other_languages k language (member l v ms) (e ∷ es) is lacks all =
    (λ same. lacks.0 (is ∙ (same ∙ sym all.0.0)), other_languages k language ms es is lacks.1 all.1)

languages_apart : (ms : Members Number) (es : List Entry) → MembersHaveDistinctKeys ms → AllZip IsTextOfLanguage (pairs_of ms) es
    → AreDistinct (map (λ e. e.language) es)
languages_apart no_members [] keys all = tt
languages_apart no_members (e ∷ es) keys all = absurd all
languages_apart (member k v ms) [] keys all = absurd all
languages_apart (member k v ms) (e ∷ es) keys all =
    (other_languages k e.language ms es all.0.0 keys.0 all.1, languages_apart ms es keys.2 all.1)

localized_apart : (v : Json) (es : List Entry) → HasDistinctKeys v → IsLocalizedBy v es → AreDistinct (map (λ e. e.language) es)
localized_apart (text bytes) es keys is = subst (λ (xs : List Entry). AreDistinct (map (λ e. e.language) xs)) (sym is) (tt, tt)
localized_apart (object ms) es keys is = languages_apart ms es keys is
localized_apart null es keys is = absurd is
localized_apart (truth b) es keys is = absurd is
localized_apart (number n) es keys is = absurd is
localized_apart (array vs) es keys is = absurd is

optional_localized_apart : (o : Option Json) (es : List Entry) → ((v : Json) → o ≡ Some v → HasDistinctKeys v) → IsLocalized o es
    → AreDistinct (map (λ e. e.language) es)
optional_localized_apart None es keys is = subst (λ (xs : List Entry). AreDistinct (map (λ e. e.language) xs)) (sym is) tt
optional_localized_apart (Some v) es keys is = localized_apart v es (keys v refl) is

texts_apart : (k : List ℕ) (ms : Members Number) (l : Localized) → MembersHaveDistinctKeys ms → HasLocalized k ms l.entries → HasDistinctLanguages l
texts_apart k ms l keys has = optional_localized_apart (value_at k ms) l.entries (λ v at. keyed_distinct k ms v at keys) has

common_apart : (ms : Members Number) (c : Common) → MembersHaveDistinctKeys ms → HasCommon ms c → HasDistinctTexts c
common_apart ms c keys has = record {
  description = texts_apart (codes "description") ms c.description keys has.description;
  display_name = texts_apart (codes "displayName") ms c.display_name keys has.display_name;
}

-- ---- names
-- the name of a value that declares one
name_of : (v : Json) (ms : Members Number) (n : List ℕ) → v ≡ object ms → HasString (codes "name") ms n → name_in v ≡ Some n
name_of v ms n is has = ap name_in is ∙ ap (option_and_then text_in) has

payload_at : (ps : PayloadTerms) (vs : Elements Number) (i : ℕ) (n : List ℕ) → ArePayloads ps vs → slice_get (payload_names ps) i ≡ Some n
    → (v : Json) × (element_at vs i ≡ Some v) × ((ms : Members Number) × (v ≡ object ms) × HasString (codes "name") ms n)
payload_at no_payloads vs i n all at = absurd cc
payload_at (more_payloads p ps) no_elements i n all at = absurd all
payload_at (more_payloads (payload m c s) ps) (element v vs) zero n all at =
    let same : m ≡ n = cc in
    let g = all.0 in (v, refl, (g.0, g.2, subst (λ (t : List ℕ). HasString (codes "name") g.0 t) same g.3))
payload_at (more_payloads p ps) (element v vs) (suc i) n all at = payload_at ps vs i n all.1 at

property_at : (cs : ContentTerms) (vs : Elements Number) (i : ℕ) (n : List ℕ) → AreProperties cs vs → slice_get (content_names cs) i ≡ Some n
    → (v : Json) × (element_at vs i ≡ Some v) × ((ms : Members Number) × (v ≡ object ms) × HasString (codes "name") ms n)
property_at no_contents vs i n all at = absurd cc
property_at (more_contents c cs) no_elements i n all at = absurd all
property_at (more_contents (content m c k) cs) (element v vs) zero n all at =
    let same : m ≡ n = cc in
    let g = all.0.0 in (v, refl, (g.0, g.1, subst (λ (t : List ℕ). HasString (codes "name") g.0 t) same g.2))
property_at (more_contents c cs) (element v vs) (suc i) n all at = property_at cs vs i n all.1 at

-- ---- in an interface in which no rule is broken
module _ (whole : Json) (none : BreaksNowhere whole) where
  -- no entry of these lists repeats an earlier one
  name_again : (r s : Role) (e : Element) (broken : LocalRule) (vs : Elements Number) (i : ℕ) (v : Json) (ms : Members Number) (n : List ℕ)
      → entry_role r ≡ Some s → element_of s ms ≡ Some e → key_of e (codes "name") ≡ Some key.Name
      → ((place : List ℕ) → IsInEntry whole r repeats_name place → BreaksByPlace whole place broken role.Name)
      → Stands whole r (array vs) → element_at vs i ≡ Some v → v ≡ object ms → HasString (codes "name") ms n → repeats_name (list_of vs) i ≡ true → ⊥
  name_again r s e broken vs i v ms n entries is known breaks stands at same has again =
      let entry = subst (λ (w : Json). HasRole role.Interface whole (stands.place ++ i ∷ []) s w) same (entry_at whole stands.place r vs i s v entries at stands.there) in
      let named = key_at whole (stands.place ++ i ∷ []) s ms e key.Name (codes "name") (text n) is known has entry in
      let in_list : IsInEntry whole r repeats_name ((stands.place ++ i ∷ []) ++ named.0 ∷ []) =
      (stands.place ++ i ∷ [], named.0, refl, (stands.place, i, refl, record { entries = vs; stands = stands.there; holds = again })) in
      none ((stands.place ++ i ∷ []) ++ named.0 ∷ []) broken (role.Name, text n, named.1, inr (inl (breaks ((stands.place ++ i ∷ []) ++ named.0 ∷ []) in_list)))

  fields_apart : (vs : Elements Number) (i : ℕ) (v : Json) (ms : Members Number) (n : List ℕ) → Stands whole role.Fields (array vs) → element_at vs i ≡ Some v
      → v ≡ object ms → HasString (codes "name") ms n → repeats_name (list_of vs) i ≡ true → ⊥
  fields_apart vs i v ms n = name_again role.Fields role.Field element_kind.Payload rule.DuplicateField vs i v ms n refl refl refl (λ place entry. (refl, entry))

  properties_apart : (vs : Elements Number) (i : ℕ) (v : Json) (ms : Members Number) (n : List ℕ) → Stands whole role.Properties (array vs) → element_at vs i ≡ Some v
      → v ≡ object ms → HasString (codes "name") ms n → repeats_name (list_of vs) i ≡ true → ⊥
  properties_apart vs i v ms n =
      name_again role.Properties role.RelationshipProperty element_kind.Property rule.DuplicateName vs i v ms n refl refl refl (λ place entry. (refl, inr entry))

  contents_apart : (vs : Elements Number) (i : ℕ) (v : Json) (ms : Members Number) (k : KindTerm) (n : List ℕ) → Stands whole role.Contents (array vs)
      → element_at vs i ≡ Some v → v ≡ object ms → type_of position.Content ms ≡ Some (type_of_kind k) → HasString (codes "name") ms n
      → repeats_name (list_of vs) i ≡ true → ⊥
  contents_apart vs i v ms k n stands at is typed = name_again role.Contents role.Content (type_of_kind k) rule.DuplicateName vs i v ms n refl typed
      (name_known whole none k) (λ place entry. (refl, inl entry)) stands at is

  enum_entries_apart : (k : ValueSchema) (vs : Elements Number) (i : ℕ) (v : Json) (ms : Members Number) (n : List ℕ) → Stands whole (role.EnumValues k) (array vs)
      → element_at vs i ≡ Some v → v ≡ object ms → HasString (codes "name") ms n → repeats_name (list_of vs) i ≡ true → ⊥
  enum_entries_apart k vs i v ms n = name_again (role.EnumValues k) (role.EnumEntry k) element_kind.EnumEntry rule.DuplicateEnumName vs i v ms n refl refl refl
      (λ place entry. (refl, (k, entry)))

  parents_apart : (vs : Elements Number) (i : ℕ) (v : Json) → Stands whole role.Extends (array vs) → element_at vs i ≡ Some v
      → repeats_text (list_of vs) i ≡ true → ⊥
  parents_apart vs i v stands at again =
      let entry = entry_at whole stands.place role.Extends vs i role.Parent v refl at stands.there in
      none (stands.place ++ i ∷ []) rule.RepeatedParent
      (role.Parent, v, entry, inr (inl (stands.place, i, refl, record { entries = vs; stands = stands.there; holds = again })))

  -- ---- enums
  enum_texts_apart : (vs : Elements Number) (es : List EnumEntry) → ElementsHaveDistinctKeys vs → AllZip IsEnumEntry (list_of vs) es
      → AllByRecursion (λ e. HasDistinctTexts e.common) es
  enum_texts_apart no_elements [] keys all = tt
  enum_texts_apart no_elements (e ∷ es) keys all = absurd all
  enum_texts_apart (element v vs) [] keys all = absurd all
  enum_texts_apart (element v vs) (e ∷ es) keys all =
      let g = all.0 in
      (common_apart g.0 e.common (subst HasDistinctKeys g.1 keys.0) g.2.common, enum_texts_apart vs es keys.1 all.1)

  enum_names_apart : (k : ValueSchema) (vs : Elements Number) (es : List EnumEntry) → AllZip IsEnumEntry (list_of vs) es → Stands whole (role.EnumValues k) (array vs)
      → AreDistinct (map (λ e. e.name) es)
  enum_names_apart k vs es all stands = apart (λ (n : List ℕ). n) name_in vs (map (λ e. e.name) es)
      (λ i n at.
      let e = mapped_back (λ (x : EnumEntry). x.name) es i n at in
      let v = zip_at IsEnumEntry vs es i e.0 all e.1 in
      (v.0, v.1, name_of v.0 v.2.0 e.0.name v.2.1 v.2.2.name ∙ ap (λ (t : List ℕ). Some t) e.2))
      (λ i n at again.
      let e = mapped_back (λ (x : EnumEntry). x.name) es i n at in
      let v = zip_at IsEnumEntry vs es i e.0 all e.1 in
      enum_entries_apart k vs i v.0 v.2.0 e.0.name stands v.1 v.2.1 v.2.2.name again)

  -- ---- schemas and payloads
  field_names_apart : (ps : PayloadTerms) (vs : Elements Number) → ArePayloads ps vs → Stands whole role.Fields (array vs) → AreDistinct (payload_names ps)
  field_names_apart ps vs all stands = apart (λ (n : List ℕ). n) name_in vs (payload_names ps)
      (λ i n at. let v = payload_at ps vs i n all at in (v.0, v.1, name_of v.0 v.2.0 n v.2.1 v.2.2))
      (λ i n at again. let v = payload_at ps vs i n all at in fields_apart vs i v.0 v.2.0 n stands v.1 v.2.1 v.2.2 again)

  mutual
    schema_apart : (s : SchemaTerm) (r : Role) (v : Json) → IsSchemaRole whole none r → HasDistinctKeys v → IsSchema s v → Stands whole r v → SchemaIsDistinct s
    schema_apart (primitive p) r v is keys g there = tt
    schema_apart (named id) r v is keys g there = tt
    schema_apart (array_of c s) r v is keys g there =
        let stands = subst (Stands whole r) g.2.0 there in
        let inside = subst HasDistinctKeys g.2.0 keys in
        let e = schema_element whole none r is g.0 ∙ g.2.1 in (
          common_apart g.0 c inside g.3,
          schema_apart s (role.Schema schema_use.Inner) g.1 (inr (schema_use.Inner, refl)) (keyed_distinct (codes "elementSchema") g.0 g.1 g.4 inside) g.5
              (key_stands whole r g.0 element_kind.Array key.ElementSchema (codes "elementSchema") g.1 e refl g.4 stands),
        )
    schema_apart (enumeration c of_text es) r v is keys g there =
        let stands = subst (Stands whole r) g.2.0 there in
        let inside = subst HasDistinctKeys g.2.0 keys in
        let e = schema_element whole none r is g.0 ∙ g.2.1 in
        let listed = key_stands whole r g.0 element_kind.Enumeration key.EnumValues (codes "enumValues") (array g.1) e refl g.5 stands in (
          common_apart g.0 c inside g.3,
          (enum_names_apart (schema_of_values g.0) g.1 es g.6 listed, enum_texts_apart g.1 es (listed_distinct (codes "enumValues") g.0 g.1 g.5 inside) g.6),
        )
    schema_apart (map_of c k e) r v is keys g there =
        let stands = subst (Stands whole r) g.3.0 there in
        let inside = subst HasDistinctKeys g.3.0 keys in
        let element = schema_element whole none r is g.0 ∙ g.3.1 in (
          common_apart g.0 c inside g.4,
          payload_apart k (role.Payload payload_use.MapKey) g.1 (inl (payload_use.MapKey, refl)) (keyed_distinct (codes "mapKey") g.0 g.1 g.5 inside) g.6
              (key_stands whole r g.0 element_kind.Map key.MapKey (codes "mapKey") g.1 element refl g.5 stands),
          payload_apart e (role.Payload payload_use.MapValue) g.2 (inl (payload_use.MapValue, refl)) (keyed_distinct (codes "mapValue") g.0 g.2 g.7 inside) g.8
              (key_stands whole r g.0 element_kind.Map key.MapValue (codes "mapValue") g.2 element refl g.7 stands),
        )
    schema_apart (object_of c fs) r v is keys g there =
        let stands = subst (Stands whole r) g.2.0 there in
        let inside = subst HasDistinctKeys g.2.0 keys in
        let e = schema_element whole none r is g.0 ∙ g.2.1 in
        let listed = key_stands whole r g.0 element_kind.Object key.Fields (codes "fields") (array g.1) e refl g.4 stands in (
          common_apart g.0 c inside g.3,
          field_names_apart fs g.1 g.5 listed,
          payloads_apart fs g.1 (listed_distinct (codes "fields") g.0 g.1 g.4 inside) g.5
              (λ i w at. entry_stands whole role.Fields g.1 i role.Field w refl at listed),
        )

    payload_apart : (p : PayloadTerm) (r : Role) (v : Json) → IsPayloadRole whole none r → HasDistinctKeys v → IsPayload p v → Stands whole r v → PayloadIsDistinct p
    payload_apart (payload n c s) r v is keys g there =
        let stands = subst (Stands whole r) g.2 there in
        let inside = subst HasDistinctKeys g.2 keys in
        let e = payload_element whole none r is g.0 in (
          common_apart g.0 c inside g.4,
          schema_apart s (schema_role r element_kind.Payload) g.1 (payload_schema whole none r is) (keyed_distinct (codes "schema") g.0 g.1 g.5 inside) g.6
              (key_stands whole r g.0 element_kind.Payload key.Schema (codes "schema") g.1 e refl g.5 stands),
        )

    payloads_apart : (ps : PayloadTerms) (vs : Elements Number) → ElementsHaveDistinctKeys vs → ArePayloads ps vs
        → ((i : ℕ) (v : Json) → element_at vs i ≡ Some v → Stands whole role.Field v) → PayloadsAreDistinct ps
    payloads_apart no_payloads vs keys all stands = tt
    payloads_apart (more_payloads p ps) no_elements keys all stands = absurd all
    payloads_apart (more_payloads p ps) (element v vs) keys all stands =
        let first = stands zero v refl in (
          payload_apart p role.Field v (inr refl) keys.0 all.0 first,
          payloads_apart ps vs keys.1 all.1 (λ i w at. stands (suc i) w at),
        )

  -- ---- contents
  property_apart : (c : ContentTerm) (v : Json) → HasDistinctKeys v → IsContent position.Property c v → IsPropertyTerm c
      → Stands whole role.RelationshipProperty v → ContentIsDistinct c
  property_apart (content n c (property s semantic unit writable)) v keys g is there =
      let r : Role = role.RelationshipProperty in
      let stands = subst (Stands whole r) g.1 there in
      let inside = subst HasDistinctKeys g.1 keys in
      let schema = g.4.0 in (
        common_apart g.0 c inside g.3,
        schema_apart s (role.Schema schema_use.Property) schema.0 (inr (schema_use.Property, refl)) (keyed_distinct (codes "schema") g.0 schema.0 schema.1 inside) schema.2
            (key_stands whole r g.0 element_kind.Property key.Schema (codes "schema") schema.0 refl refl schema.1 stands),
      )
  property_apart (content n c other) v keys g is there = absurd cc

  each_property_apart : (cs : ContentTerms) (vs : Elements Number) → ElementsHaveDistinctKeys vs → AreProperties cs vs
      → ((i : ℕ) (v : Json) → element_at vs i ≡ Some v → Stands whole role.RelationshipProperty v) → ContentsAreDistinct cs
  each_property_apart no_contents vs keys all stands = tt
  each_property_apart (more_contents c cs) no_elements keys all stands = absurd all
  each_property_apart (more_contents c cs) (element v vs) keys all stands =
      let first = stands zero v refl in (
        property_apart c v keys.0 all.0.0 all.0.1 first,
        each_property_apart cs vs keys.1 all.1 (λ i w at. stands (suc i) w at),
      )

  listed_properties_apart : (cs : ContentTerms) (o : Option Json) → ((vs : Elements Number) × AreEntriesOf o vs × AreProperties cs vs)
      → ((v : Json) → o ≡ Some v → HasDistinctKeys v) → ((v : Json) → o ≡ Some v → Stands whole role.Properties v)
      → AreDistinct (content_names cs) × ContentsAreDistinct cs
  listed_properties_apart no_contents None g keys stands = (tt, tt)
  listed_properties_apart (more_contents c cs) None g keys stands = absurd (subst (AreProperties (more_contents c cs)) g.1 g.2)
  listed_properties_apart cs (Some w) g keys stands =
      let listed = subst (Stands whole role.Properties) g.1 (stands w refl) in
      let inside : ElementsHaveDistinctKeys g.0 = subst HasDistinctKeys g.1 (keys w refl) in (
        apart (λ (n : List ℕ). n) name_in g.0 (content_names cs)
            (λ i n at. let v = property_at cs g.0 i n g.2 at in (v.0, v.1, name_of v.0 v.2.0 n v.2.1 v.2.2))
            (λ i n at again. let v = property_at cs g.0 i n g.2 at in properties_apart g.0 i v.0 v.2.0 n listed v.1 v.2.1 v.2.2 again),
        each_property_apart cs g.0 inside g.2 (λ i v at. entry_stands whole role.Properties g.0 i role.RelationshipProperty v refl at listed),
      )

  optional_payload_apart : (k : List ℕ) (ms : Members Number) (o : Option PayloadTerm) → MembersHaveDistinctKeys ms
      → ((v : Json) → value_at k ms ≡ Some v → Stands whole (role.Payload payload_use.Command) v) → HasOptionalPayload k ms o → OptionalPayloadIsDistinct o
  optional_payload_apart k ms None keys stands has = tt
  optional_payload_apart k ms (Some p) keys stands has = payload_apart p (role.Payload payload_use.Command) has.0 (inl (payload_use.Command, refl))
      (keyed_distinct k ms has.0 has.1 keys) has.2 (stands has.0 has.1)

  kind_apart : (k : KindTerm) (ms : Members Number) → type_of position.Content ms ≡ Some (type_of_kind k) → MembersHaveDistinctKeys ms
      → AreKind position.Content k ms → Stands whole role.Content (object ms) → KindIsDistinct k
  kind_apart (telemetry s semantic unit) ms is keys g stands =
      let schema = g.0 in
      schema_apart s (role.Schema schema_use.Outer) schema.0 (inr (schema_use.Outer, refl)) (keyed_distinct (codes "schema") ms schema.0 schema.1 keys) schema.2
      (key_stands whole role.Content ms element_kind.Telemetry key.Schema (codes "schema") schema.0 is refl schema.1 stands)
  kind_apart (property s semantic unit writable) ms is keys g stands =
      let schema = g.0 in
      schema_apart s (role.Schema schema_use.Property) schema.0 (inr (schema_use.Property, refl)) (keyed_distinct (codes "schema") ms schema.0 schema.1 keys) schema.2
      (key_stands whole role.Content ms element_kind.Property key.Schema (codes "schema") schema.0 is refl schema.1 stands)
  kind_apart (command request response) ms is keys g stands =
      let r : Role = role.Content in
      let e = element_kind.Command in (
        optional_payload_apart (codes "request") ms request keys (λ w at. key_stands whole r ms e key.Request (codes "request") w is refl at stands) g.0,
        optional_payload_apart (codes "response") ms response keys (λ w at. key_stands whole r ms e key.Response (codes "response") w is refl at stands) g.1,
      )
  kind_apart (relationship target cs most writable) ms is keys g stands = listed_properties_apart cs (value_at (codes "properties") ms) g.1
      (λ w at. keyed_distinct (codes "properties") ms w at keys)
      (λ w at. key_stands whole role.Content ms element_kind.Relationship key.Properties (codes "properties") w is refl at stands)
  kind_apart (component id) ms is keys g stands = tt

  content_type : (k : KindTerm) (v : Json) (ms : Members Number) → v ≡ object ms → type_of position.Content (members_in v) ≡ Some (type_of_kind k)
      → type_of position.Content ms ≡ Some (type_of_kind k)
  content_type k v ms is typed = subst (λ (w : Json). type_of position.Content (members_in w) ≡ Some (type_of_kind k)) is typed

  content_apart : (c : ContentTerm) (v : Json) → HasDistinctKeys v → HasKindOf c v → IsContent position.Content c v
      → Stands whole role.Content v → ContentIsDistinct c
  content_apart (content n c k) v keys typed g there =
      let stands = subst (Stands whole role.Content) g.1 there in
      let inside = subst HasDistinctKeys g.1 keys in
      (common_apart g.0 c inside g.3, kind_apart k g.0 (content_type k v g.0 g.1 typed) inside g.4 stands)

  each_content_apart : (vs : Elements Number) (cs : List Content) → ElementsHaveDistinctKeys vs → AllZip IsContentEntry (list_of vs) cs
      → ((i : ℕ) (v : Json) → element_at vs i ≡ Some v → Stands whole role.Content v)
      → AllByRecursion (λ c. ContentIsDistinct (content_term c)) cs
  each_content_apart no_elements [] keys all stands = tt
  each_content_apart no_elements (c ∷ cs) keys all stands = absurd all
  each_content_apart (element v vs) [] keys all stands = absurd all
  each_content_apart (element v vs) (c ∷ cs) keys all stands =
      let first = stands zero v refl in (
        content_apart (content_term c) v keys.0 all.0.0 all.0.1 first,
        each_content_apart vs cs keys.1 all.1 (λ i w at. stands (suc i) w at),
      )

  abbrev AreApart : List Content → Type 0
  AreApart cs = AreDistinct (map (λ c. c.name) cs) × AllByRecursion (λ c. ContentIsDistinct (content_term c)) cs

  list_of_contents_apart : (vs : Elements Number) (cs : List Content) → ElementsHaveDistinctKeys vs → AllZip IsContentEntry (list_of vs) cs
      → Stands whole role.Contents (array vs) → AreApart cs
  list_of_contents_apart vs cs keys all stands = (
    apart (λ (n : List ℕ). n) name_in vs (map (λ c. c.name) cs)
        (λ i n at.
        let c = mapped_back (λ (x : Content). x.name) cs i n at in
        let v = zip_at IsContentEntry vs cs i c.0 all c.1 in
        let g = v.2.1 in
        (v.0, v.1, name_of v.0 g.0 c.0.name g.1 g.2 ∙ ap (λ (t : List ℕ). Some t) c.2))
        (λ i n at again.
        let c = mapped_back (λ (x : Content). x.name) cs i n at in
        let v = zip_at IsContentEntry vs cs i c.0 all c.1 in
        let g = v.2.1 in
        contents_apart vs i v.0 g.0 (kind_term c.0.kind) c.0.name stands v.1 g.1 (content_type (kind_term c.0.kind) v.0 g.0 g.1 v.2.0) g.2 again),
    each_content_apart vs cs keys all (λ i v at. entry_stands whole role.Contents vs i role.Content v refl at stands),
  )

  no_contents_apart : (vs : Elements Number) (cs : List Content) → vs ≡ no_elements → AllZip IsContentEntry (list_of vs) cs → AreApart cs
  no_contents_apart no_elements [] is all = (tt, tt)
  no_contents_apart no_elements (c ∷ cs) is all = absurd all
  no_contents_apart (element v vs) cs is all = absurd cc

  optional_contents_apart : (o : Option Json) (cs : List Content) → HasContents o cs → ((v : Json) → o ≡ Some v → HasDistinctKeys v)
      → ((v : Json) → o ≡ Some v → Stands whole role.Contents v) → AreApart cs
  optional_contents_apart None cs has keys stands = no_contents_apart has.0 cs has.1 has.2
  optional_contents_apart (Some v) cs has keys stands =
      list_of_contents_apart has.0 cs (subst HasDistinctKeys has.1 (keys v refl)) has.2 (subst (Stands whole role.Contents) has.1 (stands v refl))

  -- ---- parents
  listed_parents_apart : (vs : Elements Number) (ids : List Identifier) → AllZip IsIdentifier (list_of vs) ids → Stands whole role.Extends (array vs) → AreDistinct ids
  listed_parents_apart vs ids all stands = apart dtmi_text text_in vs ids
      (λ i id at. let v = zip_at IsIdentifier vs ids i id all at in (v.0, v.1, ap text_in v.2.0))
      (λ i id at again. let v = zip_at IsIdentifier vs ids i id all at in parents_apart vs i v.0 stands v.1 again)

  extends_apart : (o : Option Json) (ids : List Identifier) → HasParents o ids → ((v : Json) → o ≡ Some v → Stands whole role.Extends v) → AreDistinct ids
  extends_apart None ids has stands = subst (λ (xs : List Identifier). AreDistinct xs) (sym has) tt
  extends_apart (Some v) ids (inl has) stands = subst (λ (xs : List Identifier). AreDistinct xs) (sym has.1) (tt, tt)
  extends_apart (Some v) ids (inr has) stands = listed_parents_apart has.0 ids has.2 (subst (Stands whole role.Extends) has.1 (stands v refl))

  -- ---- named schemas
  -- an entry of `schemas` has an `@id`
  record Named (place : List ℕ) (s : SchemaTerm) : Type 0 where
    id : Identifier
    is : schema_id s ≡ Some id
    at : ℕ
    there : HasRole role.Interface whole (place ++ at ∷ []) role.ElementId (text (dtmi_text id))

  id_needed : (e : Element) (ms : Members Number) → type_of position.Schema ms ≡ Some e → Stands whole role.NamedSchema (object ms)
      → value_at (codes "@id") ms ≡ None → ⊥
  id_needed e ms typed stands lacks =
      let first : Contains (needed_keys role.NamedSchema (Some e)) key.Id = (0, omega arith, refl) in
      let missing : LacksKeyOf (needed_keys role.NamedSchema (Some e)) ms = (key.Id, first, lacks) in
      here role.NamedSchema (object ms) rule.MissingKey (stands_valid whole none role.NamedSchema (object ms) stands)
      (subst (λ (o : Option Element). LacksKeyOf (needed_keys role.NamedSchema o) ms) (sym typed) missing)

  optional_id : (e : Element) (ms : Members Number) (o : Option Identifier) → type_of position.Schema ms ≡ Some e → Stands whole role.NamedSchema (object ms)
      → HasOptionalId (codes "@id") ms o → (id : Identifier) × (o ≡ Some id) × (value_at (codes "@id") ms ≡ Some (text (dtmi_text id)))
  optional_id e ms None typed stands has = absurd (id_needed e ms typed stands has)
  optional_id e ms (Some id) typed stands has = (id, refl, has.1 ∙ ap (λ (v : Json). Some v) has.2.0)

  complex_named : (place : List ℕ) (s : SchemaTerm) (e : Element) (ms : Members Number) (v : Json) (c : Common) → v ≡ object ms
      → type_of position.Schema ms ≡ Some e → key_of e (codes "@id") ≡ Some key.Id → id_role e ≡ role.ElementId → schema_id s ≡ c.id → HasCommon ms c
      → HasRole role.Interface whole place role.NamedSchema v → Named place s
  complex_named place s e ms v c is typed known role_is same common there =
      let object_there = subst (λ (w : Json). HasRole role.Interface whole place role.NamedSchema w) is there in
      let found = optional_id e ms c.id typed (record { place = place; there = object_there }) common.id in
      let id_there = key_at whole place role.NamedSchema ms e key.Id (codes "@id") (text (dtmi_text found.0)) typed known found.2 object_there in
      record {
        id = found.0;
        is = same ∙ found.1;
        at = id_there.0;
        there = subst (λ (r : Role). HasRole role.Interface whole (place ++ id_there.0 ∷ []) r (text (dtmi_text found.0))) role_is id_there.1;
      }

  no_text : (place : List ℕ) (s : SchemaTerm) (bytes : List ℕ) (v : Json) → v ≡ text bytes → HasRole role.Interface whole place role.NamedSchema v → Named place s
  no_text place s bytes v is there =
      let text_there = subst (λ (w : Json). HasRole role.Interface whole place role.NamedSchema w) is there in
      let kind = of_kind role.NamedSchema (text bytes) (stands_valid whole none role.NamedSchema (text bytes) (record { place = place; there = text_there })) in absurd cc

  schema_named : (place : List ℕ) (s : SchemaTerm) (v : Json) → IsSchema s v → HasRole role.Interface whole place role.NamedSchema v → Named place s
  schema_named place (primitive p) v g there = no_text place (primitive p) (primitive_name p) v g there
  schema_named place (named id) v g there = no_text place (named id) (dtmi_text id) v g.0 there
  schema_named place (array_of c s) v g there =
      complex_named place (array_of c s) element_kind.Array g.0 v c g.2.0 g.2.1 refl refl refl g.3 there
  schema_named place (enumeration c of_text es) v g there =
      complex_named place (enumeration c of_text es) element_kind.Enumeration g.0 v c g.2.0 g.2.1 refl refl refl g.3 there
  schema_named place (map_of c k e) v g there = complex_named place (map_of c k e) element_kind.Map g.0 v c g.3.0 g.3.1 refl refl refl g.4 there
  schema_named place (object_of c fs) v g there = complex_named place (object_of c fs) element_kind.Object g.0 v c g.2.0 g.2.1 refl refl refl g.3 there

  before_in : (place : List ℕ) (i j a b : ℕ) → i < j → IsBefore ((place ++ i ∷ []) ++ a ∷ []) ((place ++ j ∷ []) ++ b ∷ [])
  before_in [] i j a b less = inl less
  before_in (k ∷ place) i j a b less = inr (refl, before_in place i j a b less)

  -- two places with one `@id`
  ids_apart : (first second bytes : List ℕ) → IsBefore first second → HasRole role.Interface whole first role.ElementId (text bytes)
      → HasRole role.Interface whole second role.ElementId (text bytes) → ⊥
  ids_apart first second bytes before one two = none second rule.RepeatedId
      (role.ElementId, text bytes, two, inr (inr (inr (inr refl, (first, role.ElementId, before, one, inr refl)))))

  schemas_named : (vs : Elements Number) (ss : List Schema) (place : List ℕ) (i : ℕ) (s : Schema) → AllZip (λ v s. IsSchema (schema_term s) v) (list_of vs) ss
      → HasRole role.Interface whole place role.Schemas (array vs) → slice_get ss i ≡ Some s → Named (place ++ i ∷ []) (schema_term s)
  schemas_named vs ss place i s all there at =
      let v = zip_at (λ (v : Json) (s : Schema). IsSchema (schema_term s) v) vs ss i s all at in
      schema_named (place ++ i ∷ []) (schema_term s) v.0 v.2 (entry_at whole place role.Schemas vs i role.NamedSchema v.0 refl v.1 there)

  schema_ids_apart : (vs : Elements Number) (ss : List Schema) (place : List ℕ) → AllZip (λ v s. IsSchema (schema_term s) v) (list_of vs) ss
      → HasRole role.Interface whole place role.Schemas (array vs) → AreDistinct (map (λ s. schema_id (schema_term s)) ss)
  schema_ids_apart vs ss place all there = distinct_pairs (map (λ s. schema_id (schema_term s)) ss) (λ i j x y less first second same.
      let s = mapped_back (λ (z : Schema). schema_id (schema_term z)) ss i x first in
      let t = mapped_back (λ (z : Schema). schema_id (schema_term z)) ss j y second in
      let one = schemas_named vs ss place i s.0 all there s.1 in
      let two = schemas_named vs ss place j t.0 all there t.1 in
      let ids : Some one.id ≡ Some two.id = sym one.is ∙ (s.2 ∙ (same ∙ (sym t.2 ∙ two.is))) in
      let id : one.id ≡ two.id = cc in
      let other = subst (λ (z : Identifier). HasRole role.Interface whole ((place ++ j ∷ []) ++ two.at ∷ []) role.ElementId (text (dtmi_text z))) (sym id) two.there in
      ids_apart ((place ++ i ∷ []) ++ one.at ∷ []) ((place ++ j ∷ []) ++ two.at ∷ []) (dtmi_text one.id) (before_in place i j one.at two.at less) one.there other)

  schemas_identified : (vs : Elements Number) (ss : List Schema) → AllZip (λ v s. IsSchema (schema_term s) v) (list_of vs) ss
      → ((i : ℕ) (v : Json) → element_at vs i ≡ Some v → (place : List ℕ) × HasRole role.Interface whole place role.NamedSchema v)
      → AllByRecursion (λ s. IsSome (schema_id (schema_term s))) ss
  schemas_identified no_elements [] all there = tt
  schemas_identified no_elements (s ∷ ss) all there = absurd all
  schemas_identified (element v vs) [] all there = absurd all
  schemas_identified (element v vs) (s ∷ ss) all there =
      let first = there zero v refl in
      let found = schema_named first.0 (schema_term s) v all.0 first.1 in
      (subst (λ (o : Option Identifier). IsSome o) (sym found.is) refl, schemas_identified vs ss all.1 (λ i w at. there (suc i) w at))

  each_schema_apart : (vs : Elements Number) (ss : List Schema) → ElementsHaveDistinctKeys vs → AllZip (λ v s. IsSchema (schema_term s) v) (list_of vs) ss
      → ((i : ℕ) (v : Json) → element_at vs i ≡ Some v → Stands whole role.NamedSchema v) → AllByRecursion (λ s. SchemaIsDistinct (schema_term s)) ss
  each_schema_apart no_elements [] keys all stands = tt
  each_schema_apart no_elements (s ∷ ss) keys all stands = absurd all
  each_schema_apart (element v vs) [] keys all stands = absurd all
  each_schema_apart (element v vs) (s ∷ ss) keys all stands = (
    schema_apart (schema_term s) role.NamedSchema v (inl refl) keys.0 all.0 (stands zero v refl),
    each_schema_apart vs ss keys.1 all.1 (λ i w at. stands (suc i) w at),
  )

  abbrev AreNamedApart : List Schema → Type 0
  AreNamedApart ss = AllByRecursion (λ s. IsSome (schema_id (schema_term s))) ss × AreDistinct (map (λ s. schema_id (schema_term s)) ss)
      × AllByRecursion (λ s. SchemaIsDistinct (schema_term s)) ss

  list_of_schemas_apart : (vs : Elements Number) (ss : List Schema) → ElementsHaveDistinctKeys vs → AllZip (λ v s. IsSchema (schema_term s) v) (list_of vs) ss
      → Stands whole role.Schemas (array vs) → AreNamedApart ss
  list_of_schemas_apart vs ss keys all stands = (
    schemas_identified vs ss all (λ i v at. (stands.place ++ i ∷ [], entry_at whole stands.place role.Schemas vs i role.NamedSchema v refl at stands.there)),
    schema_ids_apart vs ss stands.place all stands.there,
    each_schema_apart vs ss keys all (λ i v at. entry_stands whole role.Schemas vs i role.NamedSchema v refl at stands),
  )

  no_schemas_apart : (vs : Elements Number) (ss : List Schema) → vs ≡ no_elements → AllZip (λ v s. IsSchema (schema_term s) v) (list_of vs) ss → AreNamedApart ss
  no_schemas_apart no_elements [] is all = (tt, tt, tt)
  no_schemas_apart no_elements (s ∷ ss) is all = absurd all
  no_schemas_apart (element v vs) ss is all = absurd cc

  optional_schemas_apart : (o : Option Json) (ss : List Schema) → HasSchemas o ss → ((v : Json) → o ≡ Some v → HasDistinctKeys v)
      → ((v : Json) → o ≡ Some v → Stands whole role.Schemas v) → AreNamedApart ss
  optional_schemas_apart None ss has keys stands = no_schemas_apart has.0 ss has.1 has.2
  optional_schemas_apart (Some v) ss has keys stands =
      list_of_schemas_apart has.0 ss (subst HasDistinctKeys has.1 (keys v refl)) has.2 (subst (Stands whole role.Schemas) has.1 (stands v refl))

  -- ---- interfaces
  pub interface_apart : (ms : Members Number) (i : Interface) → whole ≡ object ms → HasDistinctKeys whole → DeclaresInterface ms i → HasDeclaration i
  interface_apart ms i is all_keys g =
      let r : Role = role.Interface in
      let e = element_kind.Interface in
      let stands = subst (Stands whole r) is (itself whole) in
      let keys : MembersHaveDistinctKeys ms = subst HasDistinctKeys is all_keys in
      let contained = optional_contents_apart (value_at (codes "contents") ms) i.contents g.contents (λ v at. keyed_distinct (codes "contents") ms v at keys)
      (λ v at. key_stands whole r ms e key.Contents (codes "contents") v refl refl at stands) in
      let declared = optional_schemas_apart (value_at (codes "schemas") ms) i.schemas g.schemas (λ v at. keyed_distinct (codes "schemas") ms v at keys)
      (λ v at. key_stands whole r ms e key.Schemas (codes "schemas") v refl refl at stands) in
      record {
        description = texts_apart (codes "description") ms i.description keys g.description;
        display_name = texts_apart (codes "displayName") ms i.display_name keys g.display_name;
        parents = extends_apart (value_at (codes "extends") ms) i.parents g.parents
            (λ v at. key_stands whole r ms e key.Extends (codes "extends") v refl refl at stands);
        names = contained.0;
        contents = contained.1;
        identified = declared.0;
        ids = declared.1;
        schemas = declared.2;
      }

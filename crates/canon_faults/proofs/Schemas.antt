-- Canonical schemas and payloads have no fault where those that declare them have none.
use Rattle.std.proofs.Common.{◌≡◌, ℕ, zero, suc, ◌≤◌, inl, inr, List, [], ◌∷◌, ◌++◌, length, map, true, ℤ, Option, Some, None, option_and_then, refl, sym, ap, subst, ◌∙◌, arith}
use Rattle.std.specs.Prelude.{codes, is_some}
use Rattle.std.specs.Option.{option_map}
use Rattle.std.specs.List.{AllByRecursion}
use Rattle.json_decimal.specs.Number.{Number}
use Rattle.json_decimal.specs.Comparing.{IsWhole}
use Rattle.json_tree.specs.Values.{Json, number, text, array, object, Elements, no_elements, element, elements_of, Members}
use Rattle.json_tree.specs.Places.{element_at}
use Rattle.dt_base.specs.names.Grammar.{dtmi_text}
use Rattle.dtdl_terms.specs.Primitives.{primitive_name}
use Rattle.dtdl_terms.specs.Terms.{SchemaTerm, primitive, named, array_of, enumeration, map_of, object_of, PayloadTerm, payload, PayloadTerms, no_payloads, more_payloads}
use Rattle.dtdl_terms.specs.Distinct.{AreDistinct, PayloadIsDistinct, PayloadsAreDistinct, SchemaIsDistinct, payload_name, payload_names}
use Rattle.dtdl_terms.specs.declared.common.Common.{Common}
use Rattle.json_tree.specs.Members.{text_in, value_at}
use Rattle.local_rules.specs.Repeats.{name_in}
use Rattle.local_rules.specs.Roles.{element_of, key_of, position_of, role_of_key, schema_role, type_in}
use Rattle.local_rules.specs.Tables.{required}
use Rattle.local_rules.specs.Breaches.{BreaksBySchemas}
use Rattle.local_rules.specs.declared.key.Key.TheVariants as key
use Rattle.local_rules.specs.declared.rule.LocalRule.{LocalRule}
use Rattle.local_rules.specs.declared.rule.LocalRule.TheVariants as rule
use Rattle.local_rules.specs.declared.role.Element.{Element}
use Rattle.local_rules.specs.declared.role.Element.TheVariants as element_kind
use Rattle.local_rules.specs.declared.role.PayloadUse.TheVariants as payload_use
use Rattle.local_rules.specs.declared.role.Position.{Position}
use Rattle.local_rules.specs.declared.role.Position.TheVariants as position
use Rattle.local_rules.specs.declared.role.SchemaUse.{SchemaUse}
use Rattle.local_rules.specs.declared.role.SchemaUse.TheVariants as schema_use
use Rattle.local_rules.specs.declared.role.Role.{Role}
use Rattle.local_rules.specs.declared.role.Role.TheVariants as role
use Rattle.local_rules.proofs.Wanted.{lacks_first}
use Rattle.local_rules.specs.Kinds.{LacksKeyOf, needed_keys}
use Rattle.local_rules.specs.Declarations.{ArePayloads, HasCommon, IsPayload, IsSchema}
use Rattle.local_rules.specs.Limits.{HasShortTexts, PayloadIsWithin, PayloadsAreWithin, SchemaIsWithin}
use Rattle.model_read.proofs.Valid.{here}
use Rattle.model_read.proofs.Standing.{BreaksNowhere, Stands, entry_stands, key_stands, stands_valid}
use Rattle.model_read.proofs.Within.{IsPayloadRole, IsSchemaRole, payload_element, payload_schema, schema_element}
use Rattle.canon_text.specs.Sorting.{sorted_by}
use Rattle.canon_text.specs.Objects.{list_in_order, object_of_parts}
use Rattle.canon_text.proofs.Told.{are_distinct, keys_of}
use Rattle.canon_text.specs.Canonical.{element_parts, id_value, payload_pairs, payload_value, schema_value}
use Rattle.canon_text.specs.Machinery.Pairs.{pair_name, pair_value}
use Rattle.canon_laws.proofs.Tables.{first_some, found, id_told}
use Rattle.canon_faults.proofs.Apart.{Named, names_repeat_nothing}
use Rattle.canon_faults.proofs.Fine.{Fine, IsOfObject, IsPlain, leaf_fine, list_fine, object_fine, plain_schemas}
use Rattle.canon_faults.proofs.Leaves.{type_alone}
use Rattle.canon_faults.proofs.Good.{EachGood, Good, PartGood, Parts, PartsGood, leaf_good, list_good, object_good, part_of, sorted_length}
use Rattle.canon_faults.proofs.Named.{array_parts, enum_parts, map_parts, members, object_parts, table, table_type, under}
use Rattle.canon_faults.proofs.Parts.{HasKeys, IsCommon, element_good, new_part, nothing_missing, part_at, text_part}
use Rattle.canon_faults.proofs.Enums.{enum_parts_good}

module _ (cs ms : Members Number) (none : BreaksNowhere (object ms))
    (alike : (s : SchemaTerm) (r : Role) (v : Json) → IsSchema s v → Stands (object ms) r v → (broken : LocalRule) → BreaksBySchemas cs broken r (schema_value s) → ⊥)
    (once : (r q : Role) (m n : Number) (z : ℤ) → Stands (object ms) r (number m) → Stands (object ms) q (number n) → IsWhole m z → IsWhole n z → m ≡ n) where
  abbrev whole : Json
  whole = object ms

  -- ---- roles of schemas
  schema_position : (r : Role) → IsSchemaRole whole none r → position_of r ≡ position.Schema
  schema_position r (inl is) = ap position_of is
  schema_position r (inr is) = ap position_of is.1

  -- the schema of a map's key is no object
  not_key : (part : SchemaUse) (ns : Members Number) → Stands whole (role.Schema part) (object ns) → IsOfObject (role.Schema part)
  not_key schema_use.MapKey ns stands =
      here (role.Schema schema_use.MapKey) (object ns) rule.BadMapKey (stands_valid whole none (role.Schema schema_use.MapKey) (object ns) stands) (refl, λ e. cc)
  not_key schema_use.Outer ns stands = tt
  not_key schema_use.Property ns stands = tt
  not_key schema_use.Inner ns stands = tt

  schema_object_role : (r : Role) (ns : Members Number) → IsSchemaRole whole none r → Stands whole r (object ns) → IsOfObject r
  schema_object_role r ns (inl is) stands = subst IsOfObject (sym is) tt
  schema_object_role r ns (inr is) stands = subst IsOfObject (sym is.1) (not_key is.0 ns (subst (λ (q : Role). Stands whole q (object ns)) is.1 stands))

  -- an entry of `schemas` has an identifier
  identified : (r : Role) (e : Element) (ns : Members Number) (c : Common) → element_of r ns ≡ Some e → Stands whole r (object ns) → HasCommon ns c → r ≡ role.NamedSchema
      → is_some (option_map id_value c.id) ≡ true
  identified r e ns c is stands has is_named = by (option_map id_value c.id) (id_told (codes "@id") ns c.id has.id)
    where
      by : (o : Option Json) → value_at (codes "@id") ns ≡ o → is_some o ≡ true
      by (Some v) at = refl
      by None at =
          let valid = stands_valid whole none role.NamedSchema (object ns) (subst (λ (q : Role). Stands whole q (object ns)) is_named stands) in
          let typed : element_of role.NamedSchema ns ≡ Some e = ap (λ (q : Role). element_of q ns) (sym is_named) ∙ is in
          absurd (here role.NamedSchema (object ns) rule.MissingKey valid
          (subst (λ (o : Option Element). LacksKeyOf (needed_keys role.NamedSchema o) ns) (sym typed) (lacks_first key.Id _ ns at)))

  or_some : (o : Option Json) → is_some o ≡ true → is_some (first_some o None) ≡ true
  or_some None is = is
  or_some (Some v) is = refl

  -- `@type` says the type
  type_part : (r : Role) (e : Element) (type : List ℕ) (cns ns : Members Number) → IsSchemaRole whole none r → type_in position.Schema (text type) ≡ Some e
      → key_of e (codes "@type") ≡ Some key.Type
      → PartGood cs (Some (role_of_key r e cns (key_of e (codes "@type")))) (Some (role_of_key r e ns (key_of e (codes "@type")))) (Some (text type)) (value_at (codes "@type") ns)
  type_part r e type cns ns role_is typed known =
      let of_type : role.Type (position_of r) ≡ role.Type position.Schema = ap (λ (p : Position). role.Type p) (schema_position r role_is) in
      part_at cs r e cns ns (codes "@type") key.Type (role.Type position.Schema) (Some (text type)) (value_at (codes "@type") ns) known of_type of_type
      (new_part cs (role.Type position.Schema) (Some (role.Type position.Schema)) (text type) (value_at (codes "@type") ns) tt (λ x. refl)
      (leaf_fine cs (role.Type position.Schema) (text type) tt
      (type_alone position.Schema type (λ nothing. let f : Some e ≡ None = sym typed ∙ nothing in cc)) (plain_schemas cs (role.Type position.Schema) (text type) tt)))

  -- a complex schema by its table
  complex_good : (r : Role) (e : Element) (type : List ℕ) (s : SchemaTerm) (c : Common) (own : Parts) (ns : Members Number) → IsSchemaRole whole none r
      → type_in position.Schema (text type) ≡ Some e → IsCommon e → key_of e (codes "@type") ≡ Some key.Type
      → found (codes "@type") own ≡ None → found (codes "@id") own ≡ None
      → schema_value s ≡ object_of_parts (table type c own) → element_of r ns ≡ Some e → IsSchema s (object ns) → Stands whole r (object ns) → HasCommon ns c → HasShortTexts c
      → HasKeys (table type c own) (required e) → are_distinct (keys_of (table type c own)) ≡ true
      → PartsGood cs r e (members (table type c own)) ns own → Good cs (Some r) (object_of_parts (table type c own)) (object ns)
  complex_good r e type s c own ns role_is typed common type_known untyped unnamed is known g stands has short keys distinct parts =
      let ps : Parts = table type c own in
      let element_is : element_of r (members ps) ≡ Some e =
      schema_element whole none r role_is (members ps) ∙ ap (option_and_then (type_in position.Schema)) (table_type type c own untyped) ∙ typed in
      object_good cs r e ps ns element_is known distinct
      (object_fine cs r (members ps) (schema_object_role r ns role_is stands)
      (nothing_missing r e ps element_is keys
      (λ is_named. ap is_some (ap (first_some (option_map id_value c.id)) unnamed) ∙ or_some (option_map id_value c.id) (identified r e ns c known stands has is_named)))
      (λ broken b. alike s r (object ns) g stands broken (subst (BreaksBySchemas cs broken r) (sym is) b)))
      (element_good cs whole none r e (members ps) ns (Some (text type)) c own common known stands has short (type_part r e type (members ps) ns role_is typed type_known) parts)

  -- ---- texts
  text_good : (r : Role) (v : Json) (bytes : List ℕ) → v ≡ text bytes → ((broken : LocalRule) → BreaksBySchemas cs broken r (text bytes) → ⊥) → Stands whole r v
      → Good cs (Some r) (text bytes) v
  text_good r v bytes is schemas there =
      let stands = subst (Stands whole r) is there in
      subst (λ (w : Json). Good cs (Some r) (text bytes) w) (sym is)
      (leaf_good cs r (text bytes) tt (leaf_fine cs r (text bytes) tt (λ broken b. here r (text bytes) broken (stands_valid whole none r (text bytes) stands) b) schemas))

  -- ---- lists of payloads
  name_there : (p : PayloadTerm) → Named name_in (payload_name p, payload_value p)
  name_there (payload n c s) =
      let ps : Parts = element_parts None c ++ (codes "name", Some (text n)) ∷ (codes "schema", Some (schema_value s)) ∷ [] in
      ap (option_and_then text_in) (under (codes "name") ps (Some (text n)) refl)

  names_there : (ps : PayloadTerms) → AllByRecursion (Named name_in) (payload_pairs ps)
  names_there no_payloads = tt
  names_there (more_payloads p ps) = (name_there p, names_there ps)

  names_are : (ps : PayloadTerms) → map pair_name (payload_pairs ps) ≡ payload_names ps
  names_are no_payloads = refl
  names_are (more_payloads p ps) = ap (λ (ks : List (List ℕ)). payload_name p ∷ ks) (names_are ps)

  pairs_long : (ps : PayloadTerms) → length (payload_pairs ps) ≡ length (payload_names ps)
  pairs_long no_payloads = refl
  pairs_long (more_payloads p ps) = let rest = pairs_long ps in omega arith

  fields_fine : (ps : PayloadTerms) → AreDistinct (payload_names ps) → length (payload_names ps) ≤ 30 → Fine cs role.Fields (list_in_order (payload_pairs ps))
  fields_fine ps apart few =
      let sorted = elements_of (map pair_value (sorted_by pair_name (payload_pairs ps))) in
      let long = sorted_length (payload_pairs ps) in
      let count = pairs_long ps in
      list_fine cs role.Fields sorted (omega arith)
      (λ i. names_repeat_nothing name_in (payload_pairs ps) i (names_there ps) (subst AreDistinct (sym (names_are ps)) apart))

  payload_object_role : (r : Role) → IsPayloadRole whole none r → IsOfObject r
  payload_object_role r (inl is) = subst IsOfObject (sym is.1) tt
  payload_object_role r (inr is) = subst IsOfObject (sym is) tt

  payload_no_schema : (r : Role) → IsPayloadRole whole none r → IsPlain r
  payload_no_schema r (inl is) = subst IsPlain (sym is.1) tt
  payload_no_schema r (inr is) = subst IsPlain (sym is) tt

  payload_not_named : (r : Role) → IsPayloadRole whole none r → r ≡ role.NamedSchema → ⊥
  payload_not_named r is is_named = subst IsPlain is_named (payload_no_schema r is)

  mutual
    pub schema_good : (s : SchemaTerm) (r : Role) (v : Json) → IsSchemaRole whole none r → IsSchema s v → SchemaIsDistinct s → SchemaIsWithin s → Stands whole r v
        → Good cs (Some r) (schema_value s) v
    schema_good (primitive p) r v is g d w there = text_good r v (primitive_name p) g (λ broken b. alike (primitive p) r v g there broken b) there
    schema_good (named id) r v is g d w there = text_good r v (dtmi_text id) g.0 (λ broken b. alike (named id) r v g there broken b) there
    schema_good (array_of c s) r v is g d w there =
        let stands = subst (Stands whole r) g.2.0 there in
        let e = schema_element whole none r is g.0 ∙ g.2.1 in
        let inner = schema_good s (role.Schema schema_use.Inner) g.1 (inr (schema_use.Inner, refl)) g.5 d.1 w.1
        (key_stands whole r g.0 element_kind.Array key.ElementSchema (codes "elementSchema") g.1 e refl g.4 stands) in
        subst (λ (u : Json). Good cs (Some r) (schema_value (array_of c s)) u) (sym g.2.0)
        (complex_good r element_kind.Array (codes "Array") (array_of c s) c (array_parts s) g.0 is refl (record { id = refl; id_is = refl; comment = refl; description = refl; display_name = refl })
        refl refl refl refl e (g.0, g.1, (refl, g.2.1), g.3, g.4, g.5) stands g.3 w.0 (refl, (refl, tt)) refl
        (part_of cs (role.Schema schema_use.Inner) (schema_value s) g.1 (value_at (codes "elementSchema") g.0) g.4 inner, tt))
    schema_good (enumeration c a es) r v is g d w there =
        let stands = subst (Stands whole r) g.2.0 there in
        let e = schema_element whole none r is g.0 ∙ g.2.1 in
        subst (λ (u : Json). Good cs (Some r) (schema_value (enumeration c a es)) u) (sym g.2.0)
        (complex_good r element_kind.Enumeration (codes "Enum") (enumeration c a es) c (enum_parts a es) g.0 is refl (record { id = refl; id_is = refl; comment = refl; description = refl; display_name = refl })
        refl refl refl refl e (g.0, g.1, (refl, g.2.1), g.3, g.4, g.5, g.6) stands g.3 w.0 (refl, (refl, (refl, tt))) refl
        (enum_parts_good cs whole none once r c a es g.0 g.1 e stands g.4 g.5 g.6 d.1.0 w.1 w.2))
    schema_good (map_of c k e) r v is g d w there =
        let stands = subst (Stands whole r) g.3.0 there in
        let kind = schema_element whole none r is g.0 ∙ g.3.1 in
        let key_good = payload_good k (role.Payload payload_use.MapKey) g.1 (inl (payload_use.MapKey, refl)) g.6 d.1 w.1
        (key_stands whole r g.0 element_kind.Map key.MapKey (codes "mapKey") g.1 kind refl g.5 stands) in
        let value_good = payload_good e (role.Payload payload_use.MapValue) g.2 (inl (payload_use.MapValue, refl)) g.8 d.2 w.2
        (key_stands whole r g.0 element_kind.Map key.MapValue (codes "mapValue") g.2 kind refl g.7 stands) in
        subst (λ (u : Json). Good cs (Some r) (schema_value (map_of c k e)) u) (sym g.3.0)
        (complex_good r element_kind.Map (codes "Map") (map_of c k e) c (map_parts k e) g.0 is refl (record { id = refl; id_is = refl; comment = refl; description = refl; display_name = refl })
        refl refl refl refl kind (g.0, g.1, g.2, (refl, g.3.1), g.4, g.5, g.6, g.7, g.8) stands g.4 w.0 (refl, (refl, (refl, tt))) refl (
          part_of cs (role.Payload payload_use.MapKey) (payload_value k) g.1 (value_at (codes "mapKey") g.0) g.5 key_good,
          (
            part_of cs (role.Payload payload_use.MapValue) (payload_value e) g.2 (value_at (codes "mapValue") g.0) g.7 value_good,
            tt,
          ),
        ))
    schema_good (object_of c fs) r v is g d w there =
        let stands = subst (Stands whole r) g.2.0 there in
        let e = schema_element whole none r is g.0 ∙ g.2.1 in
        let listed = key_stands whole r g.0 element_kind.Object key.Fields (codes "fields") (array g.1) e refl g.4 stands in
        let each = fields_good fs g.1 g.5 d.2 w.2 (λ i u at. entry_stands whole role.Fields g.1 i role.Field u refl at listed) in
        subst (λ (u : Json). Good cs (Some r) (schema_value (object_of c fs)) u) (sym g.2.0)
        (complex_good r element_kind.Object (codes "Object") (object_of c fs) c (object_parts fs) g.0 is refl (record { id = refl; id_is = refl; comment = refl; description = refl; display_name = refl })
        refl refl refl refl e (g.0, g.1, (refl, g.2.1), g.3, g.4, g.5) stands g.3 w.0 (refl, (refl, tt)) refl (
          part_of cs role.Fields (list_in_order (payload_pairs fs)) (array g.1) (value_at (codes "fields") g.0) g.4
              (list_good cs role.Fields role.Field (payload_pairs fs) g.1 refl (fields_fine fs d.1 w.1) each),
          tt,
        ))

    pub payload_good : (p : PayloadTerm) (r : Role) (v : Json) → IsPayloadRole whole none r → IsPayload p v → PayloadIsDistinct p → PayloadIsWithin p → Stands whole r v
        → Good cs (Some r) (payload_value p) v
    payload_good (payload n c s) r v is g d w there =
        let stands = subst (Stands whole r) g.2 there in
        let e = payload_element whole none r is g.0 in
        let ps : Parts = element_parts None c ++ (codes "name", Some (text n)) ∷ (codes "schema", Some (schema_value s)) ∷ [] in
        let also = payload_element whole none r is (members ps) in
        let inner = schema_good s (schema_role r element_kind.Payload) g.1 (payload_schema whole none r is) g.6 d.1 w.2
        (key_stands whole r g.0 element_kind.Payload key.Schema (codes "schema") g.1 e refl g.5 stands) in
        subst (λ (u : Json). Good cs (Some r) (payload_value (payload n c s)) u) (sym g.2)
        (object_good cs r element_kind.Payload ps g.0 also e refl
        (object_fine cs r (members ps) (payload_object_role r is)
        (nothing_missing r element_kind.Payload ps also (refl, (refl, tt)) (λ is_named. absurd (payload_not_named r is is_named)))
        (plain_schemas cs r (object (members ps)) (payload_no_schema r is)))
        (element_good cs whole none r element_kind.Payload (members ps) g.0 None c ((codes "name", Some (text n)) ∷ (codes "schema", Some (schema_value s)) ∷ [])
        (record { id = refl; id_is = refl; comment = refl; description = refl; display_name = refl }) e stands g.4 w.1 tt (
          text_part cs whole none role.Name (Some n) (value_at (codes "name") g.0) g.3 tt
              (λ u at. key_stands whole r g.0 element_kind.Payload key.Name (codes "name") u e refl at stands),
          (part_of cs (schema_role r element_kind.Payload) (schema_value s) g.1 (value_at (codes "schema") g.0) g.5 inner, tt),
        )))

    fields_good : (ps : PayloadTerms) (vs : Elements Number) → ArePayloads ps vs → PayloadsAreDistinct ps → PayloadsAreWithin ps
        → ((i : ℕ) (v : Json) → element_at vs i ≡ Some v → Stands whole role.Field v) → EachGood cs role.Field (payload_pairs ps) vs
    fields_good no_payloads no_elements g d w stands = tt
    fields_good no_payloads (element v vs) g d w stands = absurd g
    fields_good (more_payloads p ps) no_elements g d w stands = absurd g
    fields_good (more_payloads p ps) (element v vs) g d w stands =
        (payload_good p role.Field v (inr refl) g.0 d.0 w.0 (stands zero v refl), fields_good ps vs g.1 d.1 w.1 (λ i u at. stands (suc i) u at))

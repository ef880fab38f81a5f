-- What a canonical schema declares has its tree.
use Rattle.std.proofs.Common.{◌≡◌, ℕ, List, [], ◌∷◌, ◌++◌, map, Bool, true, false, Option, Some, None, refl, sym, ap, ◌∙◌, subst}
use Rattle.std.specs.Prelude.{codes}
use Rattle.std.specs.Option.{option_and_then, option_map}
use Rattle.std.specs.List.{AllByRecursion, AllZip}
use Rattle.json_decimal.specs.Number.{Number}
use Rattle.json_tree.specs.Values.{Json, number, text, array, object, Elements, no_elements, element, Members, members_of}
use Rattle.json_tree.specs.Members.{list_of}
use Rattle.local_rules.specs.Roles.{type_in}
use Rattle.local_rules.specs.declared.role.Position.TheVariants as position
use Rattle.dtdl_terms.specs.Primitives.{primitive_name}
use Rattle.dtdl_terms.specs.Terms.{SchemaTerm, primitive, named, array_of, enumeration, map_of, object_of, PayloadTerm, payload, PayloadTerms, no_payloads, more_payloads}
use Rattle.dtdl_terms.specs.Distinct.{payload_name}
use Rattle.dtdl_terms.specs.Equality.{payload_list}
use Rattle.dtdl_terms.specs.declared.common.Common.{Common}
use Rattle.dtdl_terms.specs.declared.enumeration.EnumEntry.{EnumEntry}
use Rattle.dtdl_terms.specs.declared.enumeration.EnumValue.{EnumValue}
use Rattle.dtdl_terms.specs.declared.enumeration.EnumValue.TheVariants as values
use Rattle.local_rules.specs.Declarations.{HasCommon, IsEnumValue, IsEnumEntry, IsSchema, IsPayload, ArePayloads, HasSchema, HasPayload, HasOptionalPayload}
use Rattle.local_rules.specs.Declarations as declared
use Rattle.model_read.proofs.Once.{is, form, form_in, primitive_form, has_form}
use Rattle.canon_text.specs.Numbers.{whole}
use Rattle.canon_text.specs.Objects.{present, object_of_parts, list_in_order}
use Rattle.canon_text.specs.Canonical.{element_parts, enum_value, enum_entry_value, enum_entry_pair, value_schema_json, schema_object, schema_value, payload_value, payload_pairs, id_text, schema_pair}
use Rattle.canon_text.specs.Machinery.Pairs.{pair_value}
use Rattle.canon_text.proofs.Told.{all_mapped}
use Rattle.canon_laws.proofs.Tables.{Pairs, Parts, first_some, found, at, same_some, number_back, PairBack, list_back, LacksCommon, id_words, words_of, type_at, ids_back, element_back}

-- ---- enums
enum_value_back : (x y : EnumValue) (v : Json) → v ≡ enum_value x → IsEnumValue v y → enum_value y ≡ enum_value x
enum_value_back (values.Number z) (values.Number y) v e g = ap (λ (u : EnumValue). enum_value u) (ap values.Number (number_back z y g.0 (sym g.1 ∙ e) g.2))
enum_value_back (values.Number z) (values.Word b) v e g = absurd (let f : text b ≡ number (whole z) = sym g ∙ e in cc)
enum_value_back (values.Word a) (values.Number y) v e g = absurd (let f : number g.0 ≡ text a = sym g.1 ∙ e in cc)
enum_value_back (values.Word a) (values.Word b) v e g = sym g ∙ e

enum_entry_back : (e f : EnumEntry) → IsEnumEntry (enum_entry_value e) f → enum_entry_pair f ≡ enum_entry_pair e
enum_entry_back e f g =
    let own : Parts = (codes "enumValue", Some (enum_value e.value)) ∷ (codes "name", Some (text e.name)) ∷ [] in
    let parts : Parts = element_parts None e.common ++ own in
    let names : text f.name ≡ text e.name = same_some (text f.name) (text e.name) (sym g.2.name ∙ at (codes "name") parts g.0 (Some (text e.name)) g.1 refl) in
    let name : f.name ≡ e.name = cc in
    let found : g.2.value.0 ≡ enum_value e.value = same_some g.2.value.0 (enum_value e.value) (sym g.2.value.1 ∙ at (codes "enumValue") parts g.0 (Some (enum_value e.value)) g.1 refl) in
    let value = enum_value_back e.value f.value g.2.value.0 found g.2.value.2 in
    let whole_value = element_back None e.common own (refl, refl, refl, refl, refl) g.0 g.1 f.common g.2.common
    ((codes "enumValue", Some (enum_value f.value)) ∷ (codes "name", Some (text f.name)) ∷ [])
    (λ i. (codes "enumValue", Some (value i)) ∷ (codes "name", Some (text (name i))) ∷ []) in
    λ i. (name i, whole_value i)

value_schema_back : (a b : Bool) → Some (text (declared.value_schema b)) ≡ Some (value_schema_json a) → value_schema_json b ≡ value_schema_json a
value_schema_back a b e = by b (same_some (text (declared.value_schema b)) (value_schema_json a) e)
  where
    by : (b : Bool) → text (declared.value_schema b) ≡ value_schema_json a → value_schema_json b ≡ value_schema_json a
    by true e = e
    by false e = e

-- ---- forms
complex_form : (type : List ℕ) (c : Common) (own : Parts) → LacksCommon own → form_in (schema_object type c own) ≡ is (type_in position.Schema (text type)) false
complex_form type c own lacks =
    ap (λ (o : Option Json). is (option_and_then (type_in position.Schema) o) false)
    (type_at (Some (text type)) c own lacks (members_of (present (element_parts (Some (text type)) c ++ own))) refl)

own_form : (s : SchemaTerm) → form_in (schema_value s) ≡ form s
own_form (primitive p) = λ i. is None (primitive_form p i)
own_form (named id) = refl
own_form (array_of c s) = complex_form (codes "Array") c ((codes "elementSchema", Some (schema_value s)) ∷ []) (refl, refl, refl, refl, refl)
own_form (enumeration c a es) = complex_form (codes "Enum") c ((codes "enumValues", Some (list_in_order (map enum_entry_pair es))) ∷ (codes "valueSchema", Some (value_schema_json a)) ∷ []) (refl, refl, refl, refl, refl)
own_form (map_of c k v) = complex_form (codes "Map") c ((codes "mapKey", Some (payload_value k)) ∷ (codes "mapValue", Some (payload_value v)) ∷ []) (refl, refl, refl, refl, refl)
own_form (object_of c ps) = complex_form (codes "Object") c ((codes "fields", Some (list_in_order (payload_pairs ps))) ∷ []) (refl, refl, refl, refl, refl)

same_form : (s t : SchemaTerm) → IsSchema t (schema_value s) → form s ≡ form t
same_form s t g = sym (own_form s) ∙ has_form t (schema_value s) g

-- ---- schemas and payloads
module _ (type : List ℕ) (c : Common) (own : Parts) (lacks : LacksCommon own) (ms : Members Number) (object_is : schema_object type c own ≡ object ms) (d : Common) (g : HasCommon ms d) where
  complex_back : (more : Parts) → more ≡ own → ◌≡◌ {A = List ℕ × Json} (id_text d.id, schema_object type d more) (id_text c.id, schema_object type c own)
  complex_back more same =
      let ids = sym (words_of d.id) ∙ ap id_words (ids_back (Some (text type)) c own lacks ms object_is d g) ∙ words_of c.id in
      let value = element_back (Some (text type)) c own lacks ms object_is d g more same in
      λ i. (ids i, value i)

abbrev pub payload_pair : PayloadTerm → List ℕ × Json
payload_pair p = (payload_name p, payload_value p)

abbrev pub IsPayloadIn : Json → PayloadTerm → Type 0
IsPayloadIn v p = IsPayload p v

payload_pairs_list : (ps : PayloadTerms) → payload_pairs ps ≡ map payload_pair (payload_list ps)
payload_pairs_list no_payloads = refl
payload_pairs_list (more_payloads p ps) = ap (λ (ms : Pairs). payload_pair p ∷ ms) (payload_pairs_list ps)

payloads_zip : (ps : PayloadTerms) (vs : Elements Number) → ArePayloads ps vs → AllZip IsPayloadIn (list_of vs) (payload_list ps)
payloads_zip no_payloads no_elements g = tt
payloads_zip no_payloads (element v vs) g = absurd g
payloads_zip (more_payloads p ps) no_elements g = absurd g
payloads_zip (more_payloads p ps) (element v vs) g = (g.0, payloads_zip ps vs g.1)

each_entry_back : (es : List EnumEntry) → AllByRecursion (λ e. PairBack IsEnumEntry enum_entry_pair (enum_entry_pair e)) es
each_entry_back [] = tt
each_entry_back (e ∷ es) = (λ f g. enum_entry_back e f g, each_entry_back es)

-- the schema, and the payload, under a key of a table
abbrev SchemaBack : SchemaTerm → Type 0
SchemaBack s = (t : SchemaTerm) → IsSchema t (schema_value s) → schema_pair t ≡ schema_pair s

abbrev PayloadBack : PayloadTerm → Type 0
PayloadBack p = (q : PayloadTerm) → IsPayload q (payload_value p) → payload_pair q ≡ payload_pair p

part_back : (s : SchemaTerm) → SchemaBack s → (t : SchemaTerm) (key : List ℕ) (ps : Parts) (ms : Members Number) → object_of_parts ps ≡ object ms
    → found key ps ≡ Some (schema_value s) → HasSchema key ms t → schema_value t ≡ schema_value s
part_back s back t key ps ms object_is there g =
    let part : g.0 ≡ schema_value s = same_some g.0 (schema_value s) (sym g.1 ∙ at key ps ms (Some (schema_value s)) object_is there) in
    ap pair_value (back t (subst (IsSchema t) part g.2))

payload_part_back : (p : PayloadTerm) → PayloadBack p → (q : PayloadTerm) (key : List ℕ) (ps : Parts) (ms : Members Number) → object_of_parts ps ≡ object ms
    → found key ps ≡ Some (payload_value p) → HasPayload key ms q → payload_value q ≡ payload_value p
payload_part_back p back q key ps ms object_is there g =
    let part : g.0 ≡ payload_value p = same_some g.0 (payload_value p) (sym g.1 ∙ at key ps ms (Some (payload_value p)) object_is there) in
    ap pair_value (back q (subst (IsPayload q) part g.2))

mutual
  forms_back : (s t : SchemaTerm) → form s ≡ form t → IsSchema t (schema_value s) → schema_pair t ≡ schema_pair s
  forms_back (primitive p) (primitive q) _ = λ g. let same : text (primitive_name p) ≡ text (primitive_name q) = g in ap (λ (v : Json). ([], v)) (sym same)
  forms_back (primitive p) other e = absurd cc
  forms_back (named id) (named another) _ = λ g. ap (λ (v : Json). ([], v)) (sym g.0)
  forms_back (named id) other e = absurd cc
  forms_back (array_of c s) (array_of d t) _ = λ g.
      let own : Parts = (codes "elementSchema", Some (schema_value s)) ∷ [] in
      let parts : Parts = element_parts (Some (text (codes "Array"))) c ++ own in
      let part = part_back s (λ u h. forms_back s u (same_form s u h) h) t (codes "elementSchema") parts g.0 g.2.0 refl (g.1, g.4, g.5) in
      complex_back (codes "Array") c own (refl, refl, refl, refl, refl) g.0 g.2.0 d g.3 ((codes "elementSchema", Some (schema_value t)) ∷ [])
      (λ i. (codes "elementSchema", Some (part i)) ∷ [])
  forms_back (array_of c s) other e = absurd cc
  forms_back (enumeration c a es) (enumeration d b fs) _ = λ g.
      let own : Parts = (codes "enumValues", Some (list_in_order (map enum_entry_pair es))) ∷ (codes "valueSchema", Some (value_schema_json a)) ∷ [] in
      let parts : Parts = element_parts (Some (text (codes "Enum"))) c ++ own in
      let list : array g.1 ≡ list_in_order (map enum_entry_pair es) = same_some (array g.1) (list_in_order (map enum_entry_pair es))
      (sym g.5 ∙ at (codes "enumValues") parts g.0 (Some (list_in_order (map enum_entry_pair es))) g.2.0 refl) in
      let entries = list_back IsEnumEntry enum_entry_pair (map enum_entry_pair es) g.1 fs (all_mapped enum_entry_pair (PairBack IsEnumEntry enum_entry_pair) es (each_entry_back es)) list g.6 in
      let kinds = value_schema_back a b (sym g.4 ∙ at (codes "valueSchema") parts g.0 (Some (value_schema_json a)) g.2.0 refl) in
      complex_back (codes "Enum") c own (refl, refl, refl, refl, refl) g.0 g.2.0 d g.3
      ((codes "enumValues", Some (list_in_order (map enum_entry_pair fs))) ∷ (codes "valueSchema", Some (value_schema_json b)) ∷ [])
      (λ i. (codes "enumValues", Some (entries i)) ∷ (codes "valueSchema", Some (kinds i)) ∷ [])
  forms_back (enumeration c a es) other e = absurd cc
  forms_back (map_of c k v) (map_of d l w) _ = λ g.
      let own : Parts = (codes "mapKey", Some (payload_value k)) ∷ (codes "mapValue", Some (payload_value v)) ∷ [] in
      let parts : Parts = element_parts (Some (text (codes "Map"))) c ++ own in
      let keys = payload_part_back k (λ q h. payload_back k q h) l (codes "mapKey") parts g.0 g.3.0 refl (g.1, g.5, g.6) in
      let values = payload_part_back v (λ q h. payload_back v q h) w (codes "mapValue") parts g.0 g.3.0 refl (g.2, g.7, g.8) in
      complex_back (codes "Map") c own (refl, refl, refl, refl, refl) g.0 g.3.0 d g.4
      ((codes "mapKey", Some (payload_value l)) ∷ (codes "mapValue", Some (payload_value w)) ∷ [])
      (λ i. (codes "mapKey", Some (keys i)) ∷ (codes "mapValue", Some (values i)) ∷ [])
  forms_back (map_of c k v) other e = absurd cc
  forms_back (object_of c ps) (object_of d qs) _ = λ g.
      let own : Parts = (codes "fields", Some (list_in_order (payload_pairs ps))) ∷ [] in
      let parts : Parts = element_parts (Some (text (codes "Object"))) c ++ own in
      let list : array g.1 ≡ list_in_order (payload_pairs ps) = same_some (array g.1) (list_in_order (payload_pairs ps))
      (sym g.4 ∙ at (codes "fields") parts g.0 (Some (list_in_order (payload_pairs ps))) g.2.0 refl) in
      let fields = ap list_in_order (payload_pairs_list qs)
      ∙ list_back IsPayloadIn payload_pair (payload_pairs ps) g.1 (payload_list qs) (payloads_back ps) list (payloads_zip qs g.1 g.5) in
      complex_back (codes "Object") c own (refl, refl, refl, refl, refl) g.0 g.2.0 d g.3 ((codes "fields", Some (list_in_order (payload_pairs qs))) ∷ [])
      (λ i. (codes "fields", Some (fields i)) ∷ [])
  forms_back (object_of c ps) other e = absurd cc

  payload_back : (p q : PayloadTerm) → IsPayload q (payload_value p) → payload_pair q ≡ payload_pair p
  payload_back (payload n c s) (payload m d t) g =
      let own : Parts = (codes "name", Some (text n)) ∷ (codes "schema", Some (schema_value s)) ∷ [] in
      let parts : Parts = element_parts None c ++ own in
      let names : text m ≡ text n = same_some (text m) (text n) (sym g.3 ∙ at (codes "name") parts g.0 (Some (text n)) g.2 refl) in
      let name : m ≡ n = cc in
      let part = part_back s (λ u h. forms_back s u (same_form s u h) h) t (codes "schema") parts g.0 g.2 refl (g.1, g.5, g.6) in
      let value = element_back None c own (refl, refl, refl, refl, refl) g.0 g.2 d g.4 ((codes "name", Some (text m)) ∷ (codes "schema", Some (schema_value t)) ∷ [])
      (λ i. (codes "name", Some (text (name i))) ∷ (codes "schema", Some (part i)) ∷ []) in
      λ i. (name i, value i)

  payloads_back : (ps : PayloadTerms) → AllByRecursion (PairBack IsPayloadIn payload_pair) (payload_pairs ps)
  payloads_back no_payloads = tt
  payloads_back (more_payloads p ps) = (λ q g. payload_back p q g, payloads_back ps)

pub schema_back : (s t : SchemaTerm) → IsSchema t (schema_value s) → schema_pair t ≡ schema_pair s
schema_back s t g = forms_back s t (same_form s t g) g

pub schema_part_back : (s t : SchemaTerm) (key : List ℕ) (ps : Parts) (ms : Members Number) → object_of_parts ps ≡ object ms → found key ps ≡ Some (schema_value s) → HasSchema key ms t
    → schema_value t ≡ schema_value s
schema_part_back s = part_back s (schema_back s)

-- a payload under a key of a table, where there is one
pub optional_payload_back : (p q : Option PayloadTerm) (key : List ℕ) (ps : Parts) (ms : Members Number) → object_of_parts ps ≡ object ms
    → found key ps ≡ first_some (option_map payload_value p) None → HasOptionalPayload key ms q → option_map payload_value q ≡ option_map payload_value p
optional_payload_back p None key ps ms object_is there g = sym g ∙ at key ps ms (option_map payload_value p) object_is there
optional_payload_back None (Some q) key ps ms object_is there g = absurd (let f : Some g.0 ≡ None = sym g.1 ∙ at key ps ms None object_is there in cc)
optional_payload_back (Some p) (Some q) key ps ms object_is there g = ap (λ (v : Json). Some v) (payload_part_back p (λ r h. payload_back p r h) q key ps ms object_is there g)

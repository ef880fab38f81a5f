-- The schemas that an interface names: in its canonical tree and in the value that declares it, level for level.
use Rattle.std.proofs.Common.{◌≡◌, ℕ, ◌⊎◌, inl, inr, List, [], ◌∷◌, ◌++◌, map, Bool, true, filter_map, Option, Some, None, option_and_then, bytes_eq, refl, sym, ap, ap₂, subst, ◌∙◌}
use Rattle.std.specs.Prelude.{codes, option_to_list}
use Rattle.std.specs.Option.{option_map}
use Rattle.std.specs.List.{AllByRecursion}
use Rattle.std.proofs.lemmas.Slice.Eq.{bytes_eq-Decides}
use Rattle.dt_base.specs.names.Grammar.{Identifier, dtmi_text}
use Rattle.json_decimal.specs.Number.{Number}
use Rattle.json_tree.specs.Values.{Json, text, Elements, no_elements, element, Members, members_of}
use Rattle.dtdl_terms.specs.Terms.{SchemaTerm, primitive, named, array_of, enumeration, map_of, object_of, PayloadTerm, payload, PayloadTerms, no_payloads, more_payloads}
use Rattle.dtdl_terms.specs.Equality.{AnyByRecursion}
use Rattle.dtdl_terms.specs.Distinct.{schema_id}
use Rattle.dtdl_terms.specs.declared.common.Common.{Common}
use Rattle.dtdl_terms.specs.declared.enumeration.EnumEntry.{EnumEntry}
use Rattle.json_tree.specs.Members.{list_of, value_at, value_in, text_in}
use Rattle.local_rules.specs.Roles.{type_in}
use Rattle.local_rules.specs.Repeats.{holds_some}
use Rattle.local_rules.specs.Levels.{has_id, parts_by, entries_under, schema_type}
use Rattle.local_rules.specs.declared.role.Element.{Element}
use Rattle.local_rules.specs.declared.role.Element.TheVariants as element_kind
use Rattle.local_rules.specs.declared.role.Position.TheVariants as position
use Rattle.local_rules.proofs.Named.{id_is}
use Rattle.local_rules.specs.Declarations.{IsPayload, ArePayloads, IsSchema}
use Rattle.canon_text.specs.Sorting.{sorted_by}
use Rattle.canon_text.specs.Objects.{present, list_in_order}
use Rattle.canon_text.specs.Canonical.{element_parts, enum_entry_pair, id_value, payload_pairs, payload_value, schema_value, value_schema_json}
use Rattle.canon_text.specs.Machinery.Pairs.{pair_name, pair_value}
use Rattle.canon_text.proofs.Told.{all_with, any_unmapped, sorted_any}
use Rattle.canon_laws.proofs.Tables.{at, first_some, found, id_told}
use Rattle.canon_faults.proofs.Among.{answer_of, has_answer}
use Rattle.canon_faults.proofs.Good.{Parts, list_again}

-- ---- complex schemas by the tables of their members
abbrev pub table : List ℕ → Common → Parts → Parts
table type c own = element_parts (Some (text type)) c ++ own

abbrev pub members : Parts → Members Number
members ps = members_of (present ps)

-- the value under a key of a table
pub under : (key : List ℕ) (ps : Parts) (o : Option Json) → found key ps ≡ first_some o None → value_at key (members ps) ≡ o
under key ps o is = at key ps (members ps) o refl is

pub table_type : (type : List ℕ) (c : Common) (own : Parts) → found (codes "@type") own ≡ None → value_at (codes "@type") (members (table type c own)) ≡ Some (text type)
table_type type c own lacks = under (codes "@type") (table type c own) (Some (text type)) (ap (first_some (Some (text type))) lacks)

table_id : (type : List ℕ) (c : Common) (own : Parts) → found (codes "@id") own ≡ None → value_at (codes "@id") (members (table type c own)) ≡ option_map id_value c.id
table_id type c own lacks = under (codes "@id") (table type c own) (option_map id_value c.id) (ap (first_some (option_map id_value c.id)) lacks)

abbrev pub array_parts : SchemaTerm → Parts
array_parts s = (codes "elementSchema", Some (schema_value s)) ∷ []

abbrev pub enum_parts : Bool → List EnumEntry → Parts
enum_parts a es = (codes "enumValues", Some (list_in_order (map enum_entry_pair es))) ∷ (codes "valueSchema", Some (value_schema_json a)) ∷ []

abbrev pub map_parts : PayloadTerm → PayloadTerm → Parts
map_parts k e = (codes "mapKey", Some (payload_value k)) ∷ (codes "mapValue", Some (payload_value e)) ∷ []

abbrev pub object_parts : PayloadTerms → Parts
object_parts fs = (codes "fields", Some (list_in_order (payload_pairs fs))) ∷ []

-- ---- what a schema has, read of its canonical value and of a value that declares it
abbrev pub kind_of_schema : SchemaTerm → Option Element
kind_of_schema (primitive p) = None
kind_of_schema (named id) = None
kind_of_schema (array_of c s) = Some element_kind.Array
kind_of_schema (enumeration c a es) = Some element_kind.Enumeration
kind_of_schema (map_of c k e) = Some element_kind.Map
kind_of_schema (object_of c fs) = Some element_kind.Object

abbrev schema_of_payload : PayloadTerm → SchemaTerm
schema_of_payload (payload n c s) = s

abbrev schemas_of_payloads : PayloadTerms → List SchemaTerm
schemas_of_payloads no_payloads = []
schemas_of_payloads (more_payloads p ps) = schema_of_payload p ∷ schemas_of_payloads ps

-- the schemas that lie in a schema
abbrev pub inner_schemas : SchemaTerm → List SchemaTerm
inner_schemas (primitive p) = []
inner_schemas (named id) = []
inner_schemas (array_of c s) = s ∷ []
inner_schemas (enumeration c a es) = []
inner_schemas (map_of c k e) = schema_of_payload k ∷ schema_of_payload e ∷ []
inner_schemas (object_of c fs) = schemas_of_payloads fs

pub canonical_id : (s : SchemaTerm) → value_in (codes "@id") (schema_value s) ≡ option_map id_value (schema_id s)
canonical_id (primitive p) = refl
canonical_id (named id) = refl
canonical_id (array_of c s) = table_id (codes "Array") c (array_parts s) refl
canonical_id (enumeration c a es) = table_id (codes "Enum") c (enum_parts a es) refl
canonical_id (map_of c k e) = table_id (codes "Map") c (map_parts k e) refl
canonical_id (object_of c fs) = table_id (codes "Object") c (object_parts fs) refl

pub declared_id : (s : SchemaTerm) (v : Json) → IsSchema s v → value_in (codes "@id") v ≡ option_map id_value (schema_id s)
declared_id (primitive p) v g = ap (value_in (codes "@id")) g
declared_id (named id) v g = ap (value_in (codes "@id")) g.0
declared_id (array_of c s) v g = ap (value_in (codes "@id")) g.2.0 ∙ id_told (codes "@id") g.0 c.id g.3.id
declared_id (enumeration c a es) v g = ap (value_in (codes "@id")) g.2.0 ∙ id_told (codes "@id") g.0 c.id g.3.id
declared_id (map_of c k e) v g = ap (value_in (codes "@id")) g.3.0 ∙ id_told (codes "@id") g.0 c.id g.4.id
declared_id (object_of c fs) v g = ap (value_in (codes "@id")) g.2.0 ∙ id_told (codes "@id") g.0 c.id g.3.id

pub canonical_kind : (s : SchemaTerm) → schema_type (schema_value s) ≡ kind_of_schema s
canonical_kind (primitive p) = refl
canonical_kind (named id) = refl
canonical_kind (array_of c s) = ap (option_and_then (type_in position.Schema)) (table_type (codes "Array") c (array_parts s) refl)
canonical_kind (enumeration c a es) = ap (option_and_then (type_in position.Schema)) (table_type (codes "Enum") c (enum_parts a es) refl)
canonical_kind (map_of c k e) = ap (option_and_then (type_in position.Schema)) (table_type (codes "Map") c (map_parts k e) refl)
canonical_kind (object_of c fs) = ap (option_and_then (type_in position.Schema)) (table_type (codes "Object") c (object_parts fs) refl)

pub declared_kind : (s : SchemaTerm) (v : Json) → IsSchema s v → schema_type v ≡ kind_of_schema s
declared_kind (primitive p) v g = ap schema_type g
declared_kind (named id) v g = ap schema_type g.0
declared_kind (array_of c s) v g = ap schema_type g.2.0 ∙ g.2.1
declared_kind (enumeration c a es) v g = ap schema_type g.2.0 ∙ g.2.1
declared_kind (map_of c k e) v g = ap schema_type g.3.0 ∙ g.3.1
declared_kind (object_of c fs) v g = ap schema_type g.2.0 ∙ g.2.1

-- ---- the parts of a canonical schema are its inner schemas
payload_schema_at : (p : PayloadTerm) → value_in (codes "schema") (payload_value p) ≡ Some (schema_value (schema_of_payload p))
payload_schema_at (payload n c s) =
    let ps : Parts = element_parts None c ++ (codes "name", Some (text n)) ∷ (codes "schema", Some (schema_value s)) ∷ [] in
    under (codes "schema") ps (Some (schema_value s)) refl

field_schema : (p : Json) (fs : PayloadTerms) → AnyByRecursion (λ m. value_in (codes "schema") (pair_value m) ≡ Some p) (payload_pairs fs)
    → AnyByRecursion (λ t. schema_value t ≡ p) (schemas_of_payloads fs)
field_schema p no_payloads any = absurd any
field_schema p (more_payloads f fs) (inl is) =
    inl (let e : Some (schema_value (schema_of_payload f)) ≡ Some p = sym (payload_schema_at f) ∙ is in cc)
field_schema p (more_payloads f fs) (inr later) = inr (field_schema p fs later)

abbrev Inner : SchemaTerm → Json → Type 0
Inner s p = AnyByRecursion (λ t. schema_value t ≡ p) (inner_schemas s)

abbrev IsOf : Json → List Json → Type 0
IsOf p parts = AnyByRecursion (λ q. q ≡ p) parts

array_inner : (s : SchemaTerm) (p : Json) (o : Option Json) → o ≡ Some (schema_value s) → IsOf p (option_to_list o) → (schema_value s ≡ p) ⊎ ⊥
array_inner s p o is any = subst (λ (u : Option Json). IsOf p (option_to_list u)) is any

map_inner : (k e : PayloadTerm) (p : Json) (o u : Option Json) → o ≡ Some (schema_value (schema_of_payload k)) → u ≡ Some (schema_value (schema_of_payload e))
    → IsOf p (option_to_list o ++ option_to_list u) → (schema_value (schema_of_payload k) ≡ p) ⊎ ((schema_value (schema_of_payload e) ≡ p) ⊎ ⊥)
map_inner k e p o u first second any =
    subst (λ (x : Option Json). IsOf p (schema_value (schema_of_payload k) ∷ option_to_list x)) second
    (subst (λ (x : Option Json). IsOf p (option_to_list x ++ option_to_list u)) first any)

pub canonical_inner : (s : SchemaTerm) (p : Json) → IsOf p (parts_by (kind_of_schema s) (schema_value s)) → Inner s p
canonical_inner (primitive q) p any = any
canonical_inner (named id) p any = any
canonical_inner (array_of c s) p any =
    array_inner s p (value_in (codes "elementSchema") (schema_value (array_of c s))) (under (codes "elementSchema") (table (codes "Array") c (array_parts s)) (Some (schema_value s)) refl) any
canonical_inner (enumeration c a es) p any = any
canonical_inner (map_of c k e) p any =
    let ps : Parts = table (codes "Map") c (map_parts k e) in
    map_inner k e p (option_and_then (value_in (codes "schema")) (value_at (codes "mapKey") (members ps))) (option_and_then (value_in (codes "schema")) (value_at (codes "mapValue") (members ps)))
    (ap (option_and_then (value_in (codes "schema"))) (under (codes "mapKey") ps (Some (payload_value k)) refl) ∙ payload_schema_at k)
    (ap (option_and_then (value_in (codes "schema"))) (under (codes "mapValue") ps (Some (payload_value e)) refl) ∙ payload_schema_at e) any
canonical_inner (object_of c fs) p any =
    let ps : Parts = table (codes "Object") c (object_parts fs) in
    let sorted = sorted_by pair_name (payload_pairs fs) in
    let entries : entries_under (value_at (codes "fields") (members ps)) ≡ map pair_value sorted =
    ap entries_under (under (codes "fields") ps (Some (list_in_order (payload_pairs fs))) refl) ∙ list_again (map pair_value sorted) in
    let inside : IsOf p (filter_map (value_in (codes "schema")) (map pair_value sorted)) =
    subst (λ (vs : List Json). IsOf p (filter_map (value_in (codes "schema")) vs)) entries any in
    field_schema p fs (sorted_any pair_name (λ m. value_in (codes "schema") (pair_value m) ≡ Some p) (payload_pairs fs)
    (any_unmapped pair_value (λ v. value_in (codes "schema") v ≡ Some p) sorted (answer_of (value_in (codes "schema")) (map pair_value sorted) p inside)))

-- ---- each inner schema is declared by a part
abbrev IsDeclaredIn : List Json → SchemaTerm → Type 0
IsDeclaredIn parts t = AnyByRecursion (λ w. IsSchema t w) parts

payload_declared : (p : PayloadTerm) (v : Json) → IsPayload p v → (part : Json) × (value_in (codes "schema") v ≡ Some part) × IsSchema (schema_of_payload p) part
payload_declared (payload n c s) v g = (g.1, ap (value_in (codes "schema")) g.2 ∙ g.5, g.6)

fields_declared : (fs : PayloadTerms) (vs : Elements Number) → ArePayloads fs vs
    → AllByRecursion (λ t. AnyByRecursion (λ v. (part : Json) × (value_in (codes "schema") v ≡ Some part) × IsSchema t part) (list_of vs)) (schemas_of_payloads fs)
fields_declared no_payloads vs g = tt
fields_declared (more_payloads p ps) no_elements g = absurd g
fields_declared (more_payloads p ps) (element v vs) g = (
  inl (payload_declared p v g.0),
  all_with (λ t. AnyByRecursion (λ w. (part : Json) × (value_in (codes "schema") w ≡ Some part) × IsSchema t part) (list_of vs))
      (λ t. AnyByRecursion (λ w. (part : Json) × (value_in (codes "schema") w ≡ Some part) × IsSchema t part) (v ∷ list_of vs))
      (λ t later. inr later) (schemas_of_payloads ps) (fields_declared ps vs g.1),
)

pub declared_inner : (s : SchemaTerm) (v : Json) → IsSchema s v → AllByRecursion (IsDeclaredIn (parts_by (kind_of_schema s) v)) (inner_schemas s)
declared_inner (primitive p) v g = tt
declared_inner (named id) v g = tt
declared_inner (array_of c s) v g =
    let part : value_in (codes "elementSchema") v ≡ Some g.1 = ap (value_in (codes "elementSchema")) g.2.0 ∙ g.4 in
    (subst (λ (o : Option Json). IsDeclaredIn (option_to_list o) s) (sym part) (inl g.5), tt)
declared_inner (enumeration c a es) v g = tt
declared_inner (map_of c k e) v g =
    let key = payload_declared k g.1 g.6 in
    let value = payload_declared e g.2 g.8 in
    let keys : option_and_then (value_in (codes "schema")) (value_in (codes "mapKey") v) ≡ Some key.0 =
    ap (option_and_then (value_in (codes "schema"))) (ap (value_in (codes "mapKey")) g.3.0 ∙ g.5) ∙ key.1 in
    let values : option_and_then (value_in (codes "schema")) (value_in (codes "mapValue") v) ≡ Some value.0 =
    ap (option_and_then (value_in (codes "schema"))) (ap (value_in (codes "mapValue")) g.3.0 ∙ g.7) ∙ value.1 in
    let parted = ap₂ (λ (a b : Option Json). option_to_list a ++ option_to_list b) keys values in
    subst (λ (parts : List Json). AllByRecursion (IsDeclaredIn parts) (schema_of_payload k ∷ schema_of_payload e ∷ [])) (sym parted) (inl key.2, (inr (inl value.2), tt))
declared_inner (object_of c fs) v g =
    let entries : entries_under (value_in (codes "fields") v) ≡ list_of g.1 = ap (λ (w : Json). entries_under (value_in (codes "fields") w)) g.2.0 ∙ ap entries_under g.4 in
    subst (λ (vs : List Json). AllByRecursion (IsDeclaredIn (filter_map (value_in (codes "schema")) vs)) (schemas_of_payloads fs)) (sym entries)
    (all_with (λ t. AnyByRecursion (λ w. (part : Json) × (value_in (codes "schema") w ≡ Some part) × IsSchema t part) (list_of g.1))
    (IsDeclaredIn (filter_map (value_in (codes "schema")) (list_of g.1)))
    (λ t some. has_answer (value_in (codes "schema")) (IsSchema t) (list_of g.1) some) (schemas_of_payloads fs) (fields_declared fs g.1 g.5))

-- ---- the identifier by which a schema is named
abbrev pub IsNamed : List ℕ → Option Identifier → Type 0
IsNamed bytes o = (id : Identifier) × (o ≡ Some id) × (dtmi_text id ≡ bytes)

one_text : (a b : List ℕ) (v : Json) → v ≡ text a → Some v ≡ Some (text b) → a ≡ b
one_text a b v e f = let same : v ≡ text b = cc in cc

pub named_by : (bytes : List ℕ) (v : Json) (o : Option Identifier) → value_in (codes "@id") v ≡ option_map id_value o → has_id bytes v ≡ true → IsNamed bytes o
named_by bytes v o is held = by o (sym is ∙ id_is bytes (value_in (codes "@id") v) held)
  where
    by : (o : Option Identifier) → option_map id_value o ≡ Some (text bytes) → IsNamed bytes o
    by None e = absurd cc
    by (Some id) e = (id, refl, one_text (dtmi_text id) bytes (id_value id) refl e)

pub has_by : (bytes : List ℕ) (v : Json) (o : Option Identifier) → value_in (codes "@id") v ≡ option_map id_value o → IsNamed bytes o → has_id bytes v ≡ true
has_by bytes v o is (id, some, same) =
    let there : option_and_then text_in (value_in (codes "@id") v) ≡ Some (dtmi_text id) =
    ap (option_and_then text_in) is ∙ ap (λ (u : Option Identifier). option_and_then text_in (option_map id_value u)) some in
    ap (holds_some (λ (t : List ℕ). bytes_eq t bytes)) there ∙ (bytes_eq-Decides (dtmi_text id) bytes).1 same

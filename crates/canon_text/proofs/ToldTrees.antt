-- Records of one canonical tree declare the same.
use Rattle.std.proofs.Common.{◌≡◌, ℕ, zero, suc, inl, inr, List, [], ◌∷◌, ◌++◌, map, Bool, true, false, if◌then◌else◌, nat_eq, Option, Some, None, refl, sym, ap, ◌∙◌}
use Rattle.std.specs.Prelude.{codes, IfSome, pos}
use Rattle.std.specs.Option.{option_map}
use Rattle.std.specs.List.{AllByRecursion, starts_with}
use Rattle.std.specs.Str.{bytes_eq}
use Rattle.std.proofs.lemmas.Simd.{map-map}
use Rattle.dt_base.specs.names.Grammar.{Identifier}
use Rattle.json_decimal.specs.Number.{Number}
use Rattle.json_tree.specs.Values.{Json, null, truth, number, text, array, object, Elements, no_elements, element, elements_of, Members, no_members, member, members_of}
use Rattle.dtdl_terms.specs.Primitives.{primitive_name}
use Rattle.dtdl_terms.specs.Terms.{SchemaTerm, primitive, named, array_of, enumeration, map_of, object_of, PayloadTerm, payload, PayloadTerms, no_payloads, more_payloads, ContentTerm, content, KindTerm, telemetry, property, command, relationship, component, ContentTerms, no_contents, more_contents}
use Rattle.dtdl_terms.specs.TermViews.{schema_term, content_term}
use Rattle.dtdl_terms.specs.Distinct.{payload_name}
use Rattle.dtdl_terms.specs.Equality.{AnyByRecursion, SameElements, SameLocalized, SameCommon, SameEnumEntry, payload_list, SameSchema, SamePayload, EachPayloadIn, IsPayloadOf, SameOptionalPayload, content_list, SameContent, EachContentIn, IsContentOf, DeclareTheSame}
use Rattle.dtdl_terms.specs.declared.common.Common.{Common}
use Rattle.dtdl_terms.specs.declared.common.Entry.{Entry}
use Rattle.dtdl_terms.specs.declared.common.Localized.{Localized}
use Rattle.dtdl_terms.specs.declared.enumeration.EnumEntry.{EnumEntry}
use Rattle.dtdl_terms.specs.declared.enumeration.EnumValue.{EnumValue}
use Rattle.dtdl_terms.specs.declared.enumeration.EnumValue.TheVariants as values
use Rattle.dtdl_terms.specs.declared.primitive.Primitive.{Primitive}
use Rattle.dtdl_terms.specs.declared.primitive.Primitive.TheVariants as primitives
use Rattle.dtdl_terms.specs.declared.interface.Interface.{Interface}
use Rattle.canon_text.specs.Sorting.{sorted_by}
use Rattle.canon_text.specs.Numbers.{whole}
use Rattle.canon_text.specs.Objects.{present, object_of_parts, members_in_order, list_in_order, unless_empty}
use Rattle.canon_text.specs.Canonical.{id_value, entry_pair, localized_value, element_parts, enum_value, enum_entry_pair, value_schema_json, schema_value, payload_value, payload_pairs, schema_pair, typed, kind_type, writable_value, most_value, kind_parts, content_value, content_pairs, content_pair, parent_pair, interface_value}
use Rattle.canon_text.specs.Identified.{IsIdentified, CommonIsIdentified, SchemaIsIdentified, PayloadIsIdentified, PayloadsAreIdentified, KindIsIdentified, ContentIsIdentified, ContentsAreIdentified, InterfaceIsIdentified}
use Rattle.canon_text.specs.Machinery.Pairs.{pair_name, pair_value}
use Rattle.canon_text.proofs.Told.{any_with, all_with, all_mapped, any_unmapped, all_unmapped, each_told, are_distinct, keys_of, present_told}
use Rattle.canon_text.proofs.Elements.{all_both, any_both}
use Rattle.canon_text.proofs.SameTrees.{one_id}
use Rattle.canon_text.proofs.Wholes.{whole_told}

abbrev Pairs : Type 0
Pairs = List (List ℕ × Json)

abbrev Parts : Type 0
Parts = List (List ℕ × Option Json)

-- ---- what values hold
abbrev pairs_in : Members Number → Pairs
pairs_in no_members = []
pairs_in (member k v ms) = (k, v) ∷ pairs_in ms

abbrev list_in : Elements Number → List Json
list_in no_elements = []
list_in (element v vs) = v ∷ list_in vs

pairs_back : (ms : Pairs) → pairs_in (members_of ms) ≡ ms
pairs_back [] = refl
pairs_back (m ∷ ms) = ap (λ (ns : Pairs). m ∷ ns) (pairs_back ms)

list_back : (vs : List Json) → list_in (elements_of vs) ≡ vs
list_back [] = refl
list_back (v ∷ vs) = ap (λ (ws : List Json). v ∷ ws) (list_back vs)

abbrev object_in : Json → Pairs
object_in null = []
object_in (truth b) = []
object_in (number n) = []
object_in (text t) = []
object_in (array vs) = []
object_in (object ms) = pairs_in ms

abbrev array_in : Json → List Json
array_in null = []
array_in (truth b) = []
array_in (number n) = []
array_in (text t) = []
array_in (array vs) = list_in vs
array_in (object ms) = []

abbrev text_in : Json → List ℕ
text_in null = []
text_in (truth b) = []
text_in (number n) = []
text_in (text t) = t
text_in (array vs) = []
text_in (object ms) = []

abbrev number_in : Json → Option Number
number_in null = None
number_in (truth b) = None
number_in (number n) = Some n
number_in (text t) = None
number_in (array vs) = None
number_in (object ms) = None

abbrev or_null : Option Json → Json
or_null None = null
or_null (Some v) = v

table_told : (xs ys : Parts) → keys_of xs ≡ keys_of ys → are_distinct (keys_of xs) ≡ true → object_of_parts xs ≡ object_of_parts ys → xs ≡ ys
table_told xs ys keys distinct e = present_told xs ys keys distinct (sym (pairs_back (present xs)) ∙ ap object_in e ∙ pairs_back (present ys))

-- the value at a position of a table
abbrev part : ℕ → Parts → Option Json
part n [] = None
part zero (p ∷ ps) = p.1
part (suc n) (p ∷ ps) = part n ps

-- ---- lists
listed_told : (ms ns : Pairs) → list_in_order ms ≡ list_in_order ns → AllByRecursion (λ m. AnyByRecursion (λ n. pair_value m ≡ pair_value n) ns) ms
listed_told ms ns e = each_told pair_name pair_value ms ns (sym (list_back (map pair_value (sorted_by pair_name ms))) ∙ ap array_in e ∙ list_back (map pair_value (sorted_by pair_name ns)))

members_told : (ms ns : Pairs) → members_in_order ms ≡ members_in_order ns → AllByRecursion (λ m. AnyByRecursion (λ n. m ≡ n) ns) ms
members_told ms ns e =
    let same = sym (pairs_back (sorted_by pair_name ms)) ∙ ap object_in e ∙ pairs_back (sorted_by pair_name ns) in
    each_told pair_name (λ (m : List ℕ × Json). m) ms ns (ap (map (λ (m : List ℕ × Json). m)) same)

module _ (value : Pairs → Json) (Each : Pairs → Pairs → Type 0) (nothing : (ns : Pairs) → Each [] ns) (told : (ms ns : Pairs) → value ms ≡ value ns → Each ms ns) where
  unless_told : (ms ns : Pairs) → unless_empty value ms ≡ unless_empty value ns → Each ms ns
  unless_told [] ns e = nothing ns
  unless_told (m ∷ ms) [] e = absurd (let f : Some (value (m ∷ ms)) ≡ None = e in cc)
  unless_told (m ∷ ms) (n ∷ ns) e = told (m ∷ ms) (n ∷ ns) (ap or_null e)

optional_listed_told : (ms ns : Pairs) → unless_empty list_in_order ms ≡ unless_empty list_in_order ns → AllByRecursion (λ m. AnyByRecursion (λ n. pair_value m ≡ pair_value n) ns) ms
optional_listed_told = unless_told list_in_order (λ ms ns. AllByRecursion (λ m. AnyByRecursion (λ n. pair_value m ≡ pair_value n) ns) ms) (λ ns. tt) listed_told

optional_members_told : (ms ns : Pairs) → unless_empty members_in_order ms ≡ unless_empty members_in_order ns → AllByRecursion (λ m. AnyByRecursion (λ n. m ≡ n) ns) ms
optional_members_told = unless_told members_in_order (λ ms ns. AllByRecursion (λ m. AnyByRecursion (λ n. m ≡ n) ns) ms) (λ ns. tt) members_told

-- what the elements say of their values, where each has its equal
module _ {A : Type 0} (pair : A → List ℕ × Json) (D : A → Type 0) (R : A → A → Type 0) where
  abbrev pub Tells : A → Type 0
  Tells x = (y : A) → D y → pair_value (pair x) ≡ pair_value (pair y) → R x y

  each_related : (xs ys : List A) → AllByRecursion Tells xs → AllByRecursion D ys
      → AllByRecursion (λ m. AnyByRecursion (λ n. pair_value m ≡ pair_value n) (map pair ys)) (map pair xs) → AllByRecursion (λ x. AnyByRecursion (λ y. R x y) ys) xs
  each_related xs ys tells ds all =
      all_both Tells (λ x. AnyByRecursion (λ n. pair_value (pair x) ≡ pair_value n) (map pair ys)) (λ x. AnyByRecursion (λ y. R x y) ys)
      (λ x tell some. any_both D (λ y. pair_value (pair x) ≡ pair_value (pair y)) (λ y. R x y) (λ y d e. tell y d e) ys ds
      (any_unmapped pair (λ n. pair_value (pair x) ≡ pair_value n) ys some)) xs tells
      (all_unmapped pair (λ m. AnyByRecursion (λ n. pair_value m ≡ pair_value n) (map pair ys)) xs all)

  other_related : (xs ys : List A) → AllByRecursion Tells xs → AllByRecursion D ys
      → AllByRecursion (λ m. AnyByRecursion (λ n. pair_value m ≡ pair_value n) (map pair xs)) (map pair ys) → AllByRecursion (λ y. AnyByRecursion (λ x. R x y) xs) ys
  other_related xs ys tells ds all =
      all_both D (λ y. AnyByRecursion (λ n. pair_value (pair y) ≡ pair_value n) (map pair xs)) (λ y. AnyByRecursion (λ x. R x y) xs)
      (λ y d some. any_both Tells (λ x. pair_value (pair y) ≡ pair_value (pair x)) (λ x. R x y) (λ x tell e. tell y d (sym e)) xs tells
      (any_unmapped pair (λ n. pair_value (pair y) ≡ pair_value n) xs some)) ys ds
      (all_unmapped pair (λ m. AnyByRecursion (λ n. pair_value m ≡ pair_value n) (map pair xs)) ys all)

  pub elements_told : (xs ys : List A) → AllByRecursion Tells xs → AllByRecursion D ys → list_in_order (map pair xs) ≡ list_in_order (map pair ys) → SameElements R xs ys
  elements_told xs ys tells ds e = record {
    each = each_related xs ys tells ds (listed_told (map pair xs) (map pair ys) e);
    other = other_related xs ys tells ds (listed_told (map pair ys) (map pair xs) (sym e));
  }

  optional_elements_told : (xs ys : List A) → AllByRecursion Tells xs → AllByRecursion D ys
      → unless_empty list_in_order (map pair xs) ≡ unless_empty list_in_order (map pair ys) → SameElements R xs ys
  optional_elements_told xs ys tells ds e = record {
    each = each_related xs ys tells ds (optional_listed_told (map pair xs) (map pair ys) e);
    other = other_related xs ys tells ds (optional_listed_told (map pair ys) (map pair xs) (sym e));
  }

-- ---- what every element may have
entry_told : (e f : Entry) → entry_pair e ≡ entry_pair f → e ≡ f
entry_told e f same =
    let language = ap pair_name same in
    let content = ap (λ (m : List ℕ × Json). text_in m.1) same in
    λ i. record { language = language i; text = content i }

localized_told : (l m : Localized) → localized_value l ≡ localized_value m → SameLocalized l m
localized_told l m e = record {
  each = entries (l.entries) (m.entries) (optional_members_told (map entry_pair l.entries) (map entry_pair m.entries) e);
  other = all_with (λ f. AnyByRecursion (λ e. f ≡ e) l.entries) (λ f. AnyByRecursion (λ e. e ≡ f) l.entries)
      (λ f some. any_with (λ e. f ≡ e) (λ e. e ≡ f) (λ e s. sym s) l.entries some) m.entries
      (entries (m.entries) (l.entries) (optional_members_told (map entry_pair m.entries) (map entry_pair l.entries) (sym e)));
}
  where
    entries : (es fs : List Entry) → AllByRecursion (λ m. AnyByRecursion (λ n. m ≡ n) (map entry_pair fs)) (map entry_pair es) → AllByRecursion (λ e. AnyByRecursion (λ f. e ≡ f) fs) es
    entries es fs all =
        all_with (λ e. AnyByRecursion (λ n. entry_pair e ≡ n) (map entry_pair fs)) (λ e. AnyByRecursion (λ f. e ≡ f) fs)
        (λ e some. any_with (λ f. entry_pair e ≡ entry_pair f) (λ f. e ≡ f) (λ f s. entry_told e f s) fs (any_unmapped entry_pair (λ n. entry_pair e ≡ n) fs some)) es
        (all_unmapped entry_pair (λ m. AnyByRecursion (λ n. m ≡ n) (map entry_pair fs)) es all)

id_told : (i j : Identifier) → IsIdentified i → IsIdentified j → id_value i ≡ id_value j → i ≡ j
id_told i j h g e = one_id i j h g (ap text_in e)

optional_id_told : (o p : Option Identifier) → IfSome o IsIdentified → IfSome p IsIdentified → option_map id_value o ≡ option_map id_value p → o ≡ p
optional_id_told None None h g e = refl
optional_id_told None (Some j) h g e = absurd (let f : None ≡ Some (id_value j) = e in cc)
optional_id_told (Some i) None h g e = absurd (let f : Some (id_value i) ≡ None = e in cc)
optional_id_told (Some i) (Some j) h g e = ap Some (id_told i j h g (ap or_null e))

optional_text_told : (o p : Option (List ℕ)) → ◌≡◌ {A = Option Json} (option_map text o) (option_map text p) → o ≡ p
optional_text_told None None e = refl
optional_text_told None (Some b) e = absurd (let f : ◌≡◌ {A = Option Json} None (Some (text b)) = e in cc)
optional_text_told (Some a) None e = absurd (let f : ◌≡◌ {A = Option Json} (Some (text a)) None = e in cc)
optional_text_told (Some a) (Some b) e = ap (λ (v : Option Json). Some (text_in (or_null v))) e

common_told : (t u : Option Json) (c d : Common) (own more : Parts) → CommonIsIdentified c → CommonIsIdentified d → element_parts t c ++ own ≡ element_parts u d ++ more → SameCommon c d
common_told t u c d own more h g e = record {
  id = optional_id_told c.id d.id h g (ap (part 0) e);
  comment = optional_text_told c.comment d.comment (ap (part 2) e);
  description = localized_told c.description d.description (ap (part 3) e);
  display_name = localized_told c.display_name d.display_name (ap (part 4) e);
}

-- ---- enums
enum_value_told : (v w : EnumValue) → enum_value v ≡ enum_value w → v ≡ w
enum_value_told (values.Number y) (values.Number z) e =
    let numbers : whole y ≡ whole z = (let f : Some (whole y) ≡ Some (whole z) = ap number_in e in cc) in
    ap values.Number (whole_told y z numbers)
enum_value_told (values.Number y) (values.Word b) e = absurd (let f : number (whole y) ≡ text b = e in cc)
enum_value_told (values.Word a) (values.Number z) e = absurd (let f : text a ≡ number (whole z) = e in cc)
enum_value_told (values.Word a) (values.Word b) e = ap values.Word (ap text_in e)

enum_entry_told : (e : EnumEntry) → CommonIsIdentified e.common → Tells enum_entry_pair (λ f. CommonIsIdentified f.common) SameEnumEntry e
enum_entry_told e h f g same =
    let own : Parts = (codes "enumValue", Some (enum_value e.value)) ∷ (codes "name", Some (text e.name)) ∷ [] in
    let more : Parts = (codes "enumValue", Some (enum_value f.value)) ∷ (codes "name", Some (text f.name)) ∷ [] in
    let table = table_told (element_parts None e.common ++ own) (element_parts None f.common ++ more) refl refl same in
    record {
      name = ap (λ (ps : Parts). text_in (or_null (part 6 ps))) table;
      common = common_told None None e.common f.common own more h g table;
      value = enum_value_told e.value f.value (ap (λ (ps : Parts). or_null (part 5 ps)) table);
    }

value_schema_told : (a b : Bool) → value_schema_json a ≡ value_schema_json b → a ≡ b
value_schema_told true true e = refl
value_schema_told true false e = absurd (let f : codes "string" ≡ codes "integer" = ap text_in e in cc)
value_schema_told false true e = absurd (let f : codes "integer" ≡ codes "string" = ap text_in e in cc)
value_schema_told false false e = refl

-- ---- which form a schema or a kind has
data Form : Type 0 where
  plain : Form
  reference : Form
  complex : List ℕ → Form

abbrev form : SchemaTerm → Form
form (primitive p) = plain
form (named id) = reference
form (array_of c s) = complex (codes "Array")
form (enumeration c of_text es) = complex (codes "Enum")
form (map_of c k e) = complex (codes "Map")
form (object_of c fs) = complex (codes "Object")

-- a text, or the first text of a list
abbrev first_text : List Json → List ℕ
first_text [] = []
first_text (v ∷ vs) = text_in v

abbrev type_text : Json → List ℕ
type_text null = []
type_text (truth b) = []
type_text (number n) = []
type_text (text t) = t
type_text (array vs) = first_text (list_in vs)
type_text (object ms) = []

abbrev type_in : Pairs → List ℕ
type_in [] = []
type_in ((k, v) ∷ ms) = if bytes_eq k (codes "@type") then type_text v else type_in ms

abbrev form_in : Json → Form
form_in (text bytes) = if starts_with nat_eq bytes (codes "dtmi:") then reference else plain
form_in (object ms) = complex (type_in (pairs_in ms))
form_in other = plain

type_found : (o : Option Json) (v : Json) (rest : Parts) → type_in (present ((codes "@id", o) ∷ (codes "@type", Some v) ∷ rest)) ≡ type_text v
type_found None v rest = refl
type_found (Some w) v rest = refl

type_of_parts : (v : Json) (c : Common) (own : Parts) → type_in (object_in (object_of_parts (element_parts (Some v) c ++ own))) ≡ type_text v
type_of_parts v c own =
    ap type_in (pairs_back (present (element_parts (Some v) c ++ own)))
    ∙ type_found (option_map id_value c.id) v ((codes "comment", option_map text c.comment) ∷ (codes "description", localized_value c.description) ∷ (codes "displayName", localized_value c.display_name) ∷ own)

primitive_form : (p : Primitive) → form_in (text (primitive_name p)) ≡ plain
primitive_form primitives.Boolean = refl
primitive_form primitives.Date = refl
primitive_form primitives.DateTime = refl
primitive_form primitives.Double = refl
primitive_form primitives.Duration = refl
primitive_form primitives.Float = refl
primitive_form primitives.Integer = refl
primitive_form primitives.Long = refl
primitive_form primitives.Str = refl
primitive_form primitives.Time = refl

form_seen : (s : SchemaTerm) → form_in (schema_value s) ≡ form s
form_seen (primitive p) = primitive_form p
form_seen (named id) = refl
form_seen (array_of c s) = ap complex (type_of_parts (text (codes "Array")) c ((codes "elementSchema", Some (schema_value s)) ∷ []))
form_seen (enumeration c a es) = ap complex (type_of_parts (text (codes "Enum")) c ((codes "enumValues", Some (list_in_order (map enum_entry_pair es))) ∷ (codes "valueSchema", Some (value_schema_json a)) ∷ []))
form_seen (map_of c k v) = ap complex (type_of_parts (text (codes "Map")) c ((codes "mapKey", Some (payload_value k)) ∷ (codes "mapValue", Some (payload_value v)) ∷ []))
form_seen (object_of c ps) = ap complex (type_of_parts (text (codes "Object")) c ((codes "fields", Some (list_in_order (payload_pairs ps))) ∷ []))

same_form : (s t : SchemaTerm) → schema_value s ≡ schema_value t → form s ≡ form t
same_form s t e = sym (form_seen s) ∙ ap form_in e ∙ form_seen t

-- ---- primitives
abbrev primitive_of : List ℕ → Primitive
primitive_of name =
    if bytes_eq name (codes "boolean") then primitives.Boolean else
    if bytes_eq name (codes "date") then primitives.Date else
    if bytes_eq name (codes "dateTime") then primitives.DateTime else
    if bytes_eq name (codes "double") then primitives.Double else
    if bytes_eq name (codes "duration") then primitives.Duration else
    if bytes_eq name (codes "float") then primitives.Float else
    if bytes_eq name (codes "integer") then primitives.Integer else
    if bytes_eq name (codes "long") then primitives.Long else
    if bytes_eq name (codes "string") then primitives.Str else
    primitives.Time

primitive_back : (p : Primitive) → primitive_of (primitive_name p) ≡ p
primitive_back primitives.Boolean = refl
primitive_back primitives.Date = refl
primitive_back primitives.DateTime = refl
primitive_back primitives.Double = refl
primitive_back primitives.Duration = refl
primitive_back primitives.Float = refl
primitive_back primitives.Integer = refl
primitive_back primitives.Long = refl
primitive_back primitives.Str = refl
primitive_back primitives.Time = refl

primitive_told : (p q : Primitive) → ◌≡◌ {A = Json} (text (primitive_name p)) (text (primitive_name q)) → p ≡ q
primitive_told p q e = sym (primitive_back p) ∙ ap (λ (v : Json). primitive_of (text_in v)) e ∙ primitive_back q

-- ---- schemas and payloads
abbrev payload_pair : PayloadTerm → List ℕ × Json
payload_pair p = (payload_name p, payload_value p)

payload_pairs_list : (ps : PayloadTerms) → payload_pairs ps ≡ map payload_pair (payload_list ps)
payload_pairs_list no_payloads = refl
payload_pairs_list (more_payloads p ps) = ap (λ (ms : Pairs). payload_pair p ∷ ms) (payload_pairs_list ps)

payloads_identified : (ps : PayloadTerms) → PayloadsAreIdentified ps → AllByRecursion PayloadIsIdentified (payload_list ps)
payloads_identified no_payloads h = tt
payloads_identified (more_payloads p ps) h = (h.0, payloads_identified ps h.1)

each_payload_of : (ps : PayloadTerms) (qs : List PayloadTerm) → AllByRecursion (λ p. AnyByRecursion (λ q. SamePayload p q) qs) (payload_list ps) → EachPayloadIn ps qs
each_payload_of no_payloads qs all = tt
each_payload_of (more_payloads p ps) qs all = (all.0, each_payload_of ps qs all.1)

payload_of : (ps : PayloadTerms) (q : PayloadTerm) → AnyByRecursion (λ p. SamePayload p q) (payload_list ps) → IsPayloadOf ps q
payload_of no_payloads q any = absurd any
payload_of (more_payloads p ps) q (inl here) = inl here
payload_of (more_payloads p ps) q (inr later) = inr (payload_of ps q later)

fields_told : (ps qs : PayloadTerms) → AllByRecursion (Tells payload_pair PayloadIsIdentified SamePayload) (payload_list ps) → PayloadsAreIdentified qs
    → list_in_order (payload_pairs ps) ≡ list_in_order (payload_pairs qs) → EachPayloadIn ps (payload_list qs) × AllByRecursion (IsPayloadOf ps) (payload_list qs)
fields_told ps qs tells h e =
    let same = elements_told payload_pair PayloadIsIdentified SamePayload (payload_list ps) (payload_list qs) tells (payloads_identified qs h)
    (ap list_in_order (sym (payload_pairs_list ps)) ∙ e ∙ ap list_in_order (payload_pairs_list qs)) in
    (each_payload_of ps (payload_list qs) same.each, all_with (λ q. AnyByRecursion (λ p. SamePayload p q) (payload_list ps)) (IsPayloadOf ps) (λ q some. payload_of ps q some) (payload_list qs) same.other)

mutual
  schema_told : (s t : SchemaTerm) → form s ≡ form t → SchemaIsIdentified s → SchemaIsIdentified t → schema_value s ≡ schema_value t → SameSchema s t
  schema_told (primitive p) (primitive q) _ = λ h g e. primitive_told p q e
  schema_told (primitive p) other f = absurd cc
  schema_told (named i) (named j) _ = λ h g e. id_told i j h g e
  schema_told (named i) other f = absurd cc
  schema_told (array_of c s) (array_of d t) _ = λ h g e.
      let own : Parts = (codes "elementSchema", Some (schema_value s)) ∷ [] in
      let more : Parts = (codes "elementSchema", Some (schema_value t)) ∷ [] in
      let type : Option Json = Some (text (codes "Array")) in
      let table = table_told (element_parts type c ++ own) (element_parts type d ++ more) refl refl e in
      let inner : schema_value s ≡ schema_value t = ap (λ (ps : Parts). or_null (part 5 ps)) table in
      (common_told type type c d own more h.0 g.0 table, schema_told s t (same_form s t inner) h.1 g.1 inner)
  schema_told (array_of c s) other f = absurd cc
  schema_told (enumeration c a es) (enumeration d b fs) _ = λ h g e.
      let own : Parts = (codes "enumValues", Some (list_in_order (map enum_entry_pair es))) ∷ (codes "valueSchema", Some (value_schema_json a)) ∷ [] in
      let more : Parts = (codes "enumValues", Some (list_in_order (map enum_entry_pair fs))) ∷ (codes "valueSchema", Some (value_schema_json b)) ∷ [] in
      let type : Option Json = Some (text (codes "Enum")) in
      let table = table_told (element_parts type c ++ own) (element_parts type d ++ more) refl refl e in (
        common_told type type c d own more h.0 g.0 table,
        value_schema_told a b (ap (λ (ps : Parts). or_null (part 6 ps)) table),
        elements_told enum_entry_pair (λ x. CommonIsIdentified x.common) SameEnumEntry es fs
            (all_with (λ x. CommonIsIdentified x.common) (Tells enum_entry_pair (λ x. CommonIsIdentified x.common) SameEnumEntry) enum_entry_told es h.1) g.1
            (ap (λ (ps : Parts). or_null (part 5 ps)) table),
      )
  schema_told (enumeration c a es) other f = absurd cc
  schema_told (map_of c k v) (map_of d l w) _ = λ h g e.
      let own : Parts = (codes "mapKey", Some (payload_value k)) ∷ (codes "mapValue", Some (payload_value v)) ∷ [] in
      let more : Parts = (codes "mapKey", Some (payload_value l)) ∷ (codes "mapValue", Some (payload_value w)) ∷ [] in
      let type : Option Json = Some (text (codes "Map")) in
      let table = table_told (element_parts type c ++ own) (element_parts type d ++ more) refl refl e in (
        common_told type type c d own more h.0 g.0 table,
        payload_told k h.1 l g.1 (ap (λ (ps : Parts). or_null (part 5 ps)) table),
        payload_told v h.2 w g.2 (ap (λ (ps : Parts). or_null (part 6 ps)) table),
      )
  schema_told (map_of c k v) other f = absurd cc
  schema_told (object_of c ps) (object_of d qs) _ = λ h g e.
      let own : Parts = (codes "fields", Some (list_in_order (payload_pairs ps))) ∷ [] in
      let more : Parts = (codes "fields", Some (list_in_order (payload_pairs qs))) ∷ [] in
      let type : Option Json = Some (text (codes "Object")) in
      let table = table_told (element_parts type c ++ own) (element_parts type d ++ more) refl refl e in
      let list = fields_told ps qs (payloads_told ps h.1) g.1 (ap (λ (ns : Parts). or_null (part 5 ns)) table) in
      (common_told type type c d own more h.0 g.0 table, list.0, list.1)
  schema_told (object_of c ps) other f = absurd cc

  payload_told : (p : PayloadTerm) → PayloadIsIdentified p → Tells payload_pair PayloadIsIdentified SamePayload p
  payload_told (payload n c s) h (payload m d t) g e =
      let own : Parts = (codes "name", Some (text n)) ∷ (codes "schema", Some (schema_value s)) ∷ [] in
      let more : Parts = (codes "name", Some (text m)) ∷ (codes "schema", Some (schema_value t)) ∷ [] in
      let table = table_told (element_parts None c ++ own) (element_parts None d ++ more) refl refl e in
      let inner : schema_value s ≡ schema_value t = ap (λ (ps : Parts). or_null (part 6 ps)) table in
      (ap (λ (ps : Parts). text_in (or_null (part 5 ps))) table, common_told None None c d own more h.0 g.0 table, schema_told s t (same_form s t inner) h.1 g.1 inner)

  payloads_told : (ps : PayloadTerms) → PayloadsAreIdentified ps → AllByRecursion (Tells payload_pair PayloadIsIdentified SamePayload) (payload_list ps)
  payloads_told no_payloads h = tt
  payloads_told (more_payloads p ps) h = (payload_told p h.0, payloads_told ps h.1)

schema_told_whole : (s : SchemaTerm) → SchemaIsIdentified s → Tells schema_pair SchemaIsIdentified SameSchema s
schema_told_whole s h t g e = schema_told s t (same_form s t e) h g e

optional_told : (p q : Option PayloadTerm) → IfSome p PayloadIsIdentified → IfSome q PayloadIsIdentified → option_map payload_value p ≡ option_map payload_value q → SameOptionalPayload p q
optional_told None None h g e = tt
optional_told None (Some q) h g e = absurd (let f : None ≡ Some (payload_value q) = e in cc)
optional_told (Some p) None h g e = absurd (let f : Some (payload_value p) ≡ None = e in cc)
optional_told (Some p) (Some q) h g e = payload_told p h q g (ap or_null e)

-- ---- contents
writable_told : (a b : Bool) → writable_value a ≡ writable_value b → a ≡ b
writable_told true true e = refl
writable_told true false e = absurd (let f : Some (truth true) ≡ None = e in cc)
writable_told false true e = absurd (let f : None ≡ Some (truth true) = e in cc)
writable_told false false e = refl

most_told : (a b : Option ℕ) → option_map most_value a ≡ option_map most_value b → a ≡ b
most_told None None e = refl
most_told None (Some n) e = absurd (let f : None ≡ Some (most_value n) = e in cc)
most_told (Some m) None e = absurd (let f : Some (most_value m) ≡ None = e in cc)
most_told (Some m) (Some n) e =
    let numbers : whole (pos m) ≡ whole (pos n) = (let f : Some (whole (pos m)) ≡ Some (whole (pos n)) = ap (λ (v : Option Json). number_in (or_null v)) e in cc) in
    let same : pos m ≡ pos n = whole_told (pos m) (pos n) numbers in
    cc

-- the semantic type is the second of a list
abbrev semantic_in : Json → Option (List ℕ)
semantic_in (array (element v (element w vs))) = Some (text_in w)
semantic_in other = None

typed_semantic : (type : List ℕ) (o : Option (List ℕ)) → semantic_in (typed type o) ≡ o
typed_semantic type None = refl
typed_semantic type (Some s) = refl

typed_told : (type : List ℕ) (o p : Option (List ℕ)) → typed type o ≡ typed type p → o ≡ p
typed_told type o p e = sym (typed_semantic type o) ∙ ap semantic_in e ∙ typed_semantic type p

typed_text : (type : List ℕ) (o : Option (List ℕ)) → type_text (typed type o) ≡ type
typed_text type None = refl
typed_text type (Some s) = refl

data Kind : Type 0 where
  a_telemetry : Kind
  a_property : Kind
  a_command : Kind
  a_relationship : Kind
  a_component : Kind

abbrev kind_of : KindTerm → Kind
kind_of (telemetry s semantic unit) = a_telemetry
kind_of (property s semantic unit writable) = a_property
kind_of (command request response) = a_command
kind_of (relationship target properties most writable) = a_relationship
kind_of (component of) = a_component

abbrev kind_named : List ℕ → Kind
kind_named name =
    if bytes_eq name (codes "Telemetry") then a_telemetry else
    if bytes_eq name (codes "Property") then a_property else
    if bytes_eq name (codes "Command") then a_command else
    if bytes_eq name (codes "Relationship") then a_relationship else
    a_component

kind_seen : (k : KindTerm) → kind_named (type_text (kind_type k)) ≡ kind_of k
kind_seen (telemetry s semantic unit) = ap kind_named (typed_text (codes "Telemetry") semantic)
kind_seen (property s semantic unit writable) = ap kind_named (typed_text (codes "Property") semantic)
kind_seen (command request response) = refl
kind_seen (relationship target properties most writable) = refl
kind_seen (component of) = refl

same_kind_of : (n m : List ℕ) (c d : Common) (k l : KindTerm) → content_value (content n c k) ≡ content_value (content m d l) → kind_of k ≡ kind_of l
same_kind_of n m c d k l e =
    sym (kind_seen k) ∙ ap kind_named (sym (type_of_parts (kind_type k) c (kind_parts n k)) ∙ ap (λ (v : Json). type_in (object_in v)) e
    ∙ type_of_parts (kind_type l) d (kind_parts m l)) ∙ kind_seen l

content_pairs_list : (cs : ContentTerms) → content_pairs cs ≡ map content_pair (content_list cs)
content_pairs_list no_contents = refl
content_pairs_list (more_contents c cs) = ap (λ (ms : Pairs). content_pair c ∷ ms) (content_pairs_list cs)

contents_identified : (cs : ContentTerms) → ContentsAreIdentified cs → AllByRecursion ContentIsIdentified (content_list cs)
contents_identified no_contents h = tt
contents_identified (more_contents c cs) h = (h.0, contents_identified cs h.1)

each_content_of : (cs : ContentTerms) (ds : List ContentTerm) → AllByRecursion (λ c. AnyByRecursion (λ d. SameContent c d) ds) (content_list cs) → EachContentIn cs ds
each_content_of no_contents ds all = tt
each_content_of (more_contents c cs) ds all = (all.0, each_content_of cs ds all.1)

content_of : (cs : ContentTerms) (d : ContentTerm) → AnyByRecursion (λ c. SameContent c d) (content_list cs) → IsContentOf cs d
content_of no_contents d any = absurd any
content_of (more_contents c cs) d (inl here) = inl here
content_of (more_contents c cs) d (inr later) = inr (content_of cs d later)

properties_told : (cs ds : ContentTerms) → AllByRecursion (Tells content_pair ContentIsIdentified SameContent) (content_list cs) → ContentsAreIdentified ds
    → unless_empty list_in_order (content_pairs cs) ≡ unless_empty list_in_order (content_pairs ds)
    → EachContentIn cs (content_list ds) × AllByRecursion (IsContentOf cs) (content_list ds)
properties_told cs ds tells h e =
    let same = optional_elements_told content_pair ContentIsIdentified SameContent (content_list cs) (content_list ds) tells (contents_identified ds h)
    (ap (unless_empty list_in_order) (sym (content_pairs_list cs)) ∙ e ∙ ap (unless_empty list_in_order) (content_pairs_list ds)) in
    (each_content_of cs (content_list ds) same.each, all_with (λ d. AnyByRecursion (λ c. SameContent c d) (content_list cs)) (IsContentOf cs) (λ d some. content_of cs d some) (content_list ds) same.other)

-- the table of a content
abbrev content_parts : ContentTerm → Parts
content_parts (content n c k) = element_parts (Some (kind_type k)) c ++ kind_parts n k

mutual
  kind_told : (n m : List ℕ) (c d : Common) (k l : KindTerm) → kind_of k ≡ kind_of l → KindIsIdentified k → KindIsIdentified l → CommonIsIdentified c → CommonIsIdentified d
      → content_value (content n c k) ≡ content_value (content m d l) → SameContent (content n c k) (content m d l)
  kind_told n m c d (telemetry s a u) (telemetry t b v) _ = λ h g i j e.
      let table = table_told (content_parts (content n c (telemetry s a u))) (content_parts (content m d (telemetry t b v))) refl refl e in
      let inner : schema_value s ≡ schema_value t = ap (λ (ps : Parts). or_null (part 6 ps)) table in (
        ap (λ (ps : Parts). text_in (or_null (part 5 ps))) table,
        common_told (Some (typed (codes "Telemetry") a)) (Some (typed (codes "Telemetry") b)) c d (kind_parts n (telemetry s a u)) (kind_parts m (telemetry t b v)) i j table,
        (
          schema_told s t (same_form s t inner) h g inner,
          typed_told (codes "Telemetry") a b (ap (λ (ps : Parts). or_null (part 1 ps)) table),
          optional_text_told u v (ap (part 7) table),
        ),
      )
  kind_told n m c d (telemetry s a u) other f = absurd cc
  kind_told n m c d (property s a u w) (property t b v x) _ = λ h g i j e.
      let table = table_told (content_parts (content n c (property s a u w))) (content_parts (content m d (property t b v x))) refl refl e in
      let inner : schema_value s ≡ schema_value t = ap (λ (ps : Parts). or_null (part 6 ps)) table in (
        ap (λ (ps : Parts). text_in (or_null (part 5 ps))) table,
        common_told (Some (typed (codes "Property") a)) (Some (typed (codes "Property") b)) c d (kind_parts n (property s a u w)) (kind_parts m (property t b v x)) i j table,
        (
          schema_told s t (same_form s t inner) h g inner,
          typed_told (codes "Property") a b (ap (λ (ps : Parts). or_null (part 1 ps)) table),
          optional_text_told u v (ap (part 7) table),
          writable_told w x (ap (part 8) table),
        ),
      )
  kind_told n m c d (property s a u w) other f = absurd cc
  kind_told n m c d (command p r) (command q o) _ = λ h g i j e.
      let table = table_told (content_parts (content n c (command p r))) (content_parts (content m d (command q o))) refl refl e in (
        ap (λ (ps : Parts). text_in (or_null (part 5 ps))) table,
        common_told (Some (text (codes "Command"))) (Some (text (codes "Command"))) c d (kind_parts n (command p r)) (kind_parts m (command q o)) i j table,
        (
          optional_told p q h.0 g.0 (ap (part 6) table),
          optional_told r o h.1 g.1 (ap (part 7) table),
        ),
      )
  kind_told n m c d (command p r) other f = absurd cc
  kind_told n m c d (relationship t cs a w) (relationship u ds b x) _ = λ h g i j e.
      let table = table_told (content_parts (content n c (relationship t cs a w))) (content_parts (content m d (relationship u ds b x))) refl refl e in
      let list = properties_told cs ds (contents_told cs h.1) g.1 (ap (part 7) table) in (
        ap (λ (ps : Parts). text_in (or_null (part 6 ps))) table,
        common_told (Some (text (codes "Relationship"))) (Some (text (codes "Relationship"))) c d (kind_parts n (relationship t cs a w)) (kind_parts m (relationship u ds b x)) i j table,
        (
          optional_id_told t u h.0 g.0 (ap (part 8) table),
          list.0,
          list.1,
          most_told a b (ap (part 5) table),
          writable_told w x (ap (part 9) table),
        ),
      )
  kind_told n m c d (relationship t cs a w) other f = absurd cc
  kind_told n m c d (component of) (component another) _ = λ h g i j e.
      let table = table_told (content_parts (content n c (component of))) (content_parts (content m d (component another))) refl refl e in (
        ap (λ (ps : Parts). text_in (or_null (part 5 ps))) table,
        common_told (Some (text (codes "Component"))) (Some (text (codes "Component"))) c d (kind_parts n (component of)) (kind_parts m (component another)) i j table,
        id_told of another h g (ap (λ (ps : Parts). or_null (part 6 ps)) table),
      )
  kind_told n m c d (component of) other f = absurd cc

  content_told : (c : ContentTerm) → ContentIsIdentified c → Tells content_pair ContentIsIdentified SameContent c
  content_told (content n c k) h (content m d l) g e = kind_told n m c d k l (same_kind_of n m c d k l e) h.1 g.1 h.0 g.0 e

  contents_told : (cs : ContentTerms) → ContentsAreIdentified cs → AllByRecursion (Tells content_pair ContentIsIdentified SameContent) (content_list cs)
  contents_told no_contents h = tt
  contents_told (more_contents c cs) h = (content_told c h.0, contents_told cs h.1)

-- ---- interfaces
abbrev interface_parts : Interface → Parts
interface_parts i =
    (codes "@context", Some (text (codes "dtmi:dtdl:context;2")))
    ∷ (codes "@id", Some (id_value i.id))
    ∷ (codes "@type", Some (text (codes "Interface")))
    ∷ (codes "comment", option_map text i.comment)
    ∷ (codes "contents", unless_empty list_in_order (map (λ c. content_pair (content_term c)) i.contents))
    ∷ (codes "description", localized_value i.description)
    ∷ (codes "displayName", localized_value i.display_name)
    ∷ (codes "extends", unless_empty list_in_order (map parent_pair i.parents))
    ∷ (codes "schemas", unless_empty list_in_order (map (λ s. schema_pair (schema_term s)) i.schemas))
    ∷ []

pub interface_told : (i j : Interface) → InterfaceIsIdentified i → InterfaceIsIdentified j → interface_value i ≡ interface_value j → DeclareTheSame i j
interface_told i j h g e =
    let table = table_told (interface_parts i) (interface_parts j) refl refl e in
    record {
      id = id_told i.id j.id h.id g.id (ap (λ (ps : Parts). or_null (part 1 ps)) table);
      comment = optional_text_told i.comment j.comment (ap (part 3) table);
      description = localized_told i.description j.description (ap (part 5) table);
      display_name = localized_told i.display_name j.display_name (ap (part 6) table);
      parents = optional_elements_told parent_pair IsIdentified (λ p q. p ≡ q) i.parents j.parents
          (all_with IsIdentified (Tells parent_pair IsIdentified (λ p q. p ≡ q)) (λ p own q other same. id_told p q own other same) i.parents h.parents) g.parents (ap (part 7) table);
      contents = optional_elements_told content_pair ContentIsIdentified SameContent (map content_term i.contents) (map content_term j.contents)
          (all_mapped content_term (Tells content_pair ContentIsIdentified SameContent) i.contents
          (all_with (λ c. ContentIsIdentified (content_term c)) (λ c. Tells content_pair ContentIsIdentified SameContent (content_term c)) (λ c own. content_told (content_term c) own) i.contents h.contents))
          (all_mapped content_term ContentIsIdentified j.contents g.contents)
          (ap (unless_empty list_in_order) (map-map content_pair content_term i.contents) ∙ ap (part 4) table ∙ ap (unless_empty list_in_order) (sym (map-map content_pair content_term j.contents)));
      schemas = optional_elements_told schema_pair SchemaIsIdentified SameSchema (map schema_term i.schemas) (map schema_term j.schemas)
          (all_mapped schema_term (Tells schema_pair SchemaIsIdentified SameSchema) i.schemas
          (all_with (λ s. SchemaIsIdentified (schema_term s)) (λ s. Tells schema_pair SchemaIsIdentified SameSchema (schema_term s)) (λ s own. schema_told_whole (schema_term s) own) i.schemas h.schemas))
          (all_mapped schema_term SchemaIsIdentified j.schemas g.schemas)
          (ap (unless_empty list_in_order) (map-map schema_pair schema_term i.schemas) ∙ ap (part 8) table ∙ ap (unless_empty list_in_order) (sym (map-map schema_pair schema_term j.schemas)));
    }

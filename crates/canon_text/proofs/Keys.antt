-- No object of a canonical tree has two members of one key.
use Rattle.std.proofs.Common.{◌≡◌, ◌≢◌, ℕ, List, [], ◌∷◌, ◌++◌, map, Bool, true, false, ◌||◌, if◌then◌else◌, Option, Some, None, refl, sym}
use Rattle.std.specs.Prelude.{codes, IfSome}
use Rattle.std.specs.Option.{option_map}
use Rattle.std.specs.List.{AllByRecursion}
use Rattle.std.specs.Str.{bytes_eq}
use Rattle.std.proofs.lemmas.Slice.Eq.{bytes_eq-Decides}
use Rattle.dt_base.specs.names.Grammar.{Identifier}
use Rattle.json_tree.specs.Values.{Json, text, elements_of, members_of, LacksKey, HasDistinctKeys, ElementsHaveDistinctKeys, MembersHaveDistinctKeys}
use Rattle.dtdl_terms.specs.Terms.{SchemaTerm, primitive, named, array_of, enumeration, map_of, object_of, PayloadTerm, payload, PayloadTerms, no_payloads, more_payloads, ContentTerm, content, telemetry, property, command, relationship, component, ContentTerms, no_contents, more_contents}
use Rattle.dtdl_terms.specs.TermViews.{schema_term, content_term}
use Rattle.dtdl_terms.specs.Distinct.{AreDistinct, HasDistinctLanguages, HasDistinctTexts, SchemaIsDistinct, PayloadIsDistinct, PayloadsAreDistinct, OptionalPayloadIsDistinct, ContentIsDistinct, ContentsAreDistinct, HasDeclaration}
use Rattle.dtdl_terms.specs.declared.common.Common.{Common}
use Rattle.dtdl_terms.specs.declared.common.Entry.{Entry}
use Rattle.dtdl_terms.specs.declared.common.Localized.{Localized}
use Rattle.dtdl_terms.specs.declared.content.Content.{Content}
use Rattle.dtdl_terms.specs.declared.enumeration.EnumEntry.{EnumEntry}
use Rattle.dtdl_terms.specs.declared.enumeration.EnumValue.{EnumValue}
use Rattle.dtdl_terms.specs.declared.enumeration.EnumValue.TheVariants as values
use Rattle.dtdl_terms.specs.declared.interface.Interface.{Interface}
use Rattle.dtdl_terms.specs.declared.schema.Schema.{Schema}
use Rattle.canon_text.specs.Sorting.{is_before, put_by, sorted_by}
use Rattle.canon_text.specs.Objects.{present, members_in_order, list_in_order, unless_empty}
use Rattle.canon_text.specs.Canonical.{id_value, entry_pair, localized_value, element_parts, enum_value, enum_entry_pair, value_schema_json, schema_value, payload_value, payload_pairs, schema_pair, typed, writable_value, most_value, kind_parts, content_value, content_pairs, content_pair, parent_pair, interface_value}
use Rattle.canon_text.specs.Machinery.Pairs.{pair_name, pair_value}
use Rattle.canon_text.proofs.Told.{all_with, all_mapped, all_unmapped, all_put, all_sorted, is_in, are_distinct, keys_of, no_both, and_first, and_second}
use Rattle.canon_text.proofs.Elements.{names_mapped}

abbrev Pairs : Type 0
Pairs = List (List ℕ × Json)

abbrev Parts : Type 0
Parts = List (List ℕ × Option Json)

-- ---- tables
neither_first : (b c : Bool) → (b || c) ≡ false → b ≡ false
neither_first true c f = absurd (no_both true refl f)
neither_first false c f = refl

neither_second : (b c : Bool) → (b || c) ≡ false → c ≡ false
neither_second true c f = absurd (no_both true refl f)
neither_second false c f = f

lacks_key : (k : List ℕ) (ps : Parts) → is_in k (keys_of ps) ≡ false → LacksKey k (members_of (present ps))
lacks_key k [] f = tt
lacks_key k ((l, None) ∷ ps) f = lacks_key k ps (neither_second (bytes_eq k l) (is_in k (keys_of ps)) f)
lacks_key k ((l, Some v) ∷ ps) f = (
  λ e. no_both (bytes_eq k l) ((bytes_eq-Decides k l).1 e) (neither_first (bytes_eq k l) (is_in k (keys_of ps)) f),
  lacks_key k ps (neither_second (bytes_eq k l) (is_in k (keys_of ps)) f),
)

abbrev ValuesAreDistinct : Parts → Type 0
ValuesAreDistinct [] = Unit {0}
ValuesAreDistinct (p ∷ ps) = IfSome p.1 HasDistinctKeys × ValuesAreDistinct ps

parts_distinct : (ps : Parts) → are_distinct (keys_of ps) ≡ true → ValuesAreDistinct ps → MembersHaveDistinctKeys (members_of (present ps))
parts_distinct [] d v = tt
parts_distinct ((k, None) ∷ ps) d v = parts_distinct ps (and_second (is_in k (keys_of ps)) (are_distinct (keys_of ps)) d) v.1
parts_distinct ((k, Some x) ∷ ps) d v = (
  lacks_key k ps (and_first (is_in k (keys_of ps)) (are_distinct (keys_of ps)) d),
  v.0,
  parts_distinct ps (and_second (is_in k (keys_of ps)) (are_distinct (keys_of ps)) d) v.1,
)

-- ---- lists
elements_distinct : (vs : List Json) → AllByRecursion HasDistinctKeys vs → ElementsHaveDistinctKeys (elements_of vs)
elements_distinct [] h = tt
elements_distinct (v ∷ vs) h = (h.0, elements_distinct vs h.1)

abbrev pub PairIsDistinct : List ℕ × Json → Type 0
PairIsDistinct m = HasDistinctKeys (pair_value m)

pub list_distinct : (ms : Pairs) → AllByRecursion PairIsDistinct ms → HasDistinctKeys (list_in_order ms)
list_distinct ms h = elements_distinct (map pair_value (sorted_by pair_name ms)) (all_mapped pair_value HasDistinctKeys (sorted_by pair_name ms) (all_sorted pair_name PairIsDistinct ms h))

optional_list_distinct : (ms : Pairs) → AllByRecursion PairIsDistinct ms → IfSome (unless_empty list_in_order ms) HasDistinctKeys
optional_list_distinct [] h = tt
optional_list_distinct (m ∷ ms) h = list_distinct (m ∷ ms) h

-- ---- members by their names
abbrev Differ : Pairs → Type 0
Differ [] = Unit {0}
Differ (m ∷ ms) = AllByRecursion (λ n. pair_name m ≢ pair_name n) ms × Differ ms

differ_of : (ms : Pairs) → AreDistinct (map pair_name ms) → Differ ms
differ_of [] d = tt
differ_of (m ∷ ms) d = (all_unmapped pair_name (λ k. pair_name m ≢ k) ms d.0, differ_of ms d.1)

differ_put : (m : List ℕ × Json) (ms : Pairs) → AllByRecursion (λ n. pair_name m ≢ pair_name n) ms → Differ ms → Differ (put_by pair_name m ms)
differ_put m [] h d = (tt, tt)
differ_put m (n ∷ ns) h d = by (is_before (pair_name n) (pair_name m)) (differ_put m ns h.1 d.1)
  where
    by : (b : Bool) → Differ (put_by pair_name m ns) → Differ (if b then n ∷ put_by pair_name m ns else m ∷ n ∷ ns)
    by true later = (all_put pair_name (λ o. pair_name n ≢ pair_name o) m ns (λ e. h.0 (sym e)) d.0, later)
    by false later = (h, d)

differ_sorted : (ms : Pairs) → Differ ms → Differ (sorted_by pair_name ms)
differ_sorted [] d = tt
differ_sorted (m ∷ ms) d = differ_put m (sorted_by pair_name ms) (all_sorted pair_name (λ n. pair_name m ≢ pair_name n) ms d.0) (differ_sorted ms d.1)

lacks_name : (k : List ℕ) (ms : Pairs) → AllByRecursion (λ n. k ≢ pair_name n) ms → LacksKey k (members_of ms)
lacks_name k [] h = tt
lacks_name k (m ∷ ms) h = (h.0, lacks_name k ms h.1)

members_distinct : (ms : Pairs) → Differ ms → AllByRecursion PairIsDistinct ms → MembersHaveDistinctKeys (members_of ms)
members_distinct [] d h = tt
members_distinct (m ∷ ms) d h = (lacks_name (pair_name m) ms d.0, h.0, members_distinct ms d.1 h.1)

optional_members_distinct : (ms : Pairs) → AreDistinct (map pair_name ms) → AllByRecursion PairIsDistinct ms → IfSome (unless_empty members_in_order ms) HasDistinctKeys
optional_members_distinct [] d h = tt
optional_members_distinct (m ∷ ms) d h =
    members_distinct (sorted_by pair_name (m ∷ ms)) (differ_sorted (m ∷ ms) (differ_of (m ∷ ms) d)) (all_sorted pair_name PairIsDistinct (m ∷ ms) h)

-- ---- elements
text_distinct : (o : Option (List ℕ)) → IfSome {T = Json} (option_map text o) HasDistinctKeys
text_distinct None = tt
text_distinct (Some t) = tt

id_distinct : (o : Option Identifier) → IfSome (option_map id_value o) HasDistinctKeys
id_distinct None = tt
id_distinct (Some i) = tt

localized_distinct : (l : Localized) → HasDistinctLanguages l → IfSome (localized_value l) HasDistinctKeys
localized_distinct l d = optional_members_distinct (map entry_pair l.entries) (names_mapped entry_pair l.entries d) (all_mapped entry_pair PairIsDistinct l.entries (each l.entries))
  where
    each : (es : List Entry) → AllByRecursion (λ e. PairIsDistinct (entry_pair e)) es
    each [] = tt
    each (e ∷ es) = (tt, each es)

element_distinct : (o : Option Json) (c : Common) (own : Parts) → IfSome o HasDistinctKeys → HasDistinctTexts c → ValuesAreDistinct own → ValuesAreDistinct (element_parts o c ++ own)
element_distinct o c own type d rest =
    (id_distinct c.id, (type, (text_distinct c.comment, (localized_distinct c.description d.description, (localized_distinct c.display_name d.display_name, rest)))))

enum_value_distinct : (v : EnumValue) → HasDistinctKeys (enum_value v)
enum_value_distinct (values.Number z) = tt
enum_value_distinct (values.Word b) = tt

enum_entry_distinct : (e : EnumEntry) → HasDistinctTexts e.common → PairIsDistinct (enum_entry_pair e)
enum_entry_distinct e d =
    let own : Parts = (codes "enumValue", Some (enum_value e.value)) ∷ (codes "name", Some (text e.name)) ∷ [] in
    parts_distinct (element_parts None e.common ++ own) refl (element_distinct None e.common own tt d (enum_value_distinct e.value, (tt, tt)))

value_schema_distinct : (b : Bool) → HasDistinctKeys (value_schema_json b)
value_schema_distinct true = tt
value_schema_distinct false = tt

mutual
  schema_distinct : (s : SchemaTerm) → SchemaIsDistinct s → HasDistinctKeys (schema_value s)
  schema_distinct (primitive p) d = tt
  schema_distinct (named id) d = tt
  schema_distinct (array_of c s) d =
      let own : Parts = (codes "elementSchema", Some (schema_value s)) ∷ [] in
      parts_distinct (element_parts (Some (text (codes "Array"))) c ++ own) refl
      (element_distinct (Some (text (codes "Array"))) c own tt d.0 (schema_distinct s d.1, tt))
  schema_distinct (enumeration c a es) d =
      let own : Parts = (codes "enumValues", Some (list_in_order (map enum_entry_pair es))) ∷ (codes "valueSchema", Some (value_schema_json a)) ∷ [] in
      parts_distinct (element_parts (Some (text (codes "Enum"))) c ++ own) refl
      (element_distinct (Some (text (codes "Enum"))) c own tt d.0 (
        list_distinct (map enum_entry_pair es) (all_mapped enum_entry_pair PairIsDistinct es
            (all_with (λ e. HasDistinctTexts e.common) (λ e. PairIsDistinct (enum_entry_pair e)) enum_entry_distinct es d.1.1)),
        (value_schema_distinct a, tt),
      ))
  schema_distinct (map_of c k v) d =
      let own : Parts = (codes "mapKey", Some (payload_value k)) ∷ (codes "mapValue", Some (payload_value v)) ∷ [] in
      parts_distinct (element_parts (Some (text (codes "Map"))) c ++ own) refl
      (element_distinct (Some (text (codes "Map"))) c own tt d.0 (payload_distinct k d.1, (payload_distinct v d.2, tt)))
  schema_distinct (object_of c ps) d =
      let own : Parts = (codes "fields", Some (list_in_order (payload_pairs ps))) ∷ [] in
      parts_distinct (element_parts (Some (text (codes "Object"))) c ++ own) refl
      (element_distinct (Some (text (codes "Object"))) c own tt d.0 (list_distinct (payload_pairs ps) (payloads_distinct ps d.2), tt))

  payload_distinct : (p : PayloadTerm) → PayloadIsDistinct p → HasDistinctKeys (payload_value p)
  payload_distinct (payload n c s) d =
      let own : Parts = (codes "name", Some (text n)) ∷ (codes "schema", Some (schema_value s)) ∷ [] in
      parts_distinct (element_parts None c ++ own) refl (element_distinct None c own tt d.0 (tt, (schema_distinct s d.1, tt)))

  payloads_distinct : (ps : PayloadTerms) → PayloadsAreDistinct ps → AllByRecursion PairIsDistinct (payload_pairs ps)
  payloads_distinct no_payloads d = tt
  payloads_distinct (more_payloads p ps) d = (payload_distinct p d.0, payloads_distinct ps d.1)

optional_payload_distinct : (p : Option PayloadTerm) → OptionalPayloadIsDistinct p → IfSome (option_map payload_value p) HasDistinctKeys
optional_payload_distinct None d = tt
optional_payload_distinct (Some p) d = payload_distinct p d

typed_distinct : (type : List ℕ) (o : Option (List ℕ)) → HasDistinctKeys (typed type o)
typed_distinct type None = tt
typed_distinct type (Some s) = (tt, (tt, tt))

writable_distinct : (b : Bool) → IfSome (writable_value b) HasDistinctKeys
writable_distinct true = tt
writable_distinct false = tt

most_distinct : (o : Option ℕ) → IfSome (option_map most_value o) HasDistinctKeys
most_distinct None = tt
most_distinct (Some n) = tt

mutual
  content_distinct : (c : ContentTerm) → ContentIsDistinct c → HasDistinctKeys (content_value c)
  content_distinct (content n c (telemetry s a u)) d =
      parts_distinct (element_parts (Some (typed (codes "Telemetry") a)) c ++ kind_parts n (telemetry s a u)) refl
      (element_distinct (Some (typed (codes "Telemetry") a)) c (kind_parts n (telemetry s a u)) (typed_distinct (codes "Telemetry") a) d.0
      (tt, (schema_distinct s d.1, (text_distinct u, tt))))
  content_distinct (content n c (property s a u w)) d =
      parts_distinct (element_parts (Some (typed (codes "Property") a)) c ++ kind_parts n (property s a u w)) refl
      (element_distinct (Some (typed (codes "Property") a)) c (kind_parts n (property s a u w)) (typed_distinct (codes "Property") a) d.0
      (tt, (schema_distinct s d.1, (text_distinct u, (writable_distinct w, tt)))))
  content_distinct (content n c (command p r)) d =
      parts_distinct (element_parts (Some (text (codes "Command"))) c ++ kind_parts n (command p r)) refl
      (element_distinct (Some (text (codes "Command"))) c (kind_parts n (command p r)) tt d.0
      (tt, (optional_payload_distinct p d.1.0, (optional_payload_distinct r d.1.1, tt))))
  content_distinct (content n c (relationship t cs m w)) d =
      parts_distinct (element_parts (Some (text (codes "Relationship"))) c ++ kind_parts n (relationship t cs m w)) refl
      (element_distinct (Some (text (codes "Relationship"))) c (kind_parts n (relationship t cs m w)) tt d.0
      (most_distinct m, (tt, (optional_list_distinct (content_pairs cs) (contents_distinct cs d.1.1), (id_distinct t, (writable_distinct w, tt))))))
  content_distinct (content n c (component of)) d =
      parts_distinct (element_parts (Some (text (codes "Component"))) c ++ kind_parts n (component of)) refl
      (element_distinct (Some (text (codes "Component"))) c (kind_parts n (component of)) tt d.0 (tt, (tt, tt)))

  contents_distinct : (cs : ContentTerms) → ContentsAreDistinct cs → AllByRecursion PairIsDistinct (content_pairs cs)
  contents_distinct no_contents d = tt
  contents_distinct (more_contents c cs) d = (content_distinct c d.0, contents_distinct cs d.1)

parents_distinct : (ps : List Identifier) → AllByRecursion PairIsDistinct (map parent_pair ps)
parents_distinct [] = tt
parents_distinct (p ∷ ps) = (tt, parents_distinct ps)

-- ---- interfaces
pub interface_distinct : (i : Interface) → HasDeclaration i → HasDistinctKeys (interface_value i)
interface_distinct i d =
    let parts : Parts =
    (codes "@context", Some (text (codes "dtmi:dtdl:context;2")))
    ∷ (codes "@id", Some (id_value i.id))
    ∷ (codes "@type", Some (text (codes "Interface")))
    ∷ (codes "comment", option_map text i.comment)
    ∷ (codes "contents", unless_empty list_in_order (map (λ c. content_pair (content_term c)) i.contents))
    ∷ (codes "description", localized_value i.description)
    ∷ (codes "displayName", localized_value i.display_name)
    ∷ (codes "extends", unless_empty list_in_order (map parent_pair i.parents))
    ∷ (codes "schemas", unless_empty list_in_order (map (λ s. schema_pair (schema_term s)) i.schemas))
    ∷ [] in
    parts_distinct parts refl (
      tt,
      (
        tt,
        (
          tt,
          (
            text_distinct i.comment,
            (
              optional_list_distinct (map (λ c. content_pair (content_term c)) i.contents) (all_mapped (λ (c : Content). content_pair (content_term c)) PairIsDistinct i.contents
                  (all_with (λ c. ContentIsDistinct (content_term c)) (λ c. PairIsDistinct (content_pair (content_term c))) (λ c h. content_distinct (content_term c) h) i.contents d.contents)),
              (
                localized_distinct i.description d.description,
                (
                  localized_distinct i.display_name d.display_name,
                  (
                    optional_list_distinct (map parent_pair i.parents) (parents_distinct i.parents),
                    (
                      optional_list_distinct (map (λ s. schema_pair (schema_term s)) i.schemas) (all_mapped (λ (s : Schema). schema_pair (schema_term s)) PairIsDistinct i.schemas
                          (all_with (λ s. SchemaIsDistinct (schema_term s)) (λ s. PairIsDistinct (schema_pair (schema_term s))) (λ s h. schema_distinct (schema_term s) h) i.schemas d.schemas)),
                      tt,
                    ),
                  ),
                ),
              ),
            ),
          ),
        ),
      ),
    )

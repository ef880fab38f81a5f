-- How deep canonical trees nest.
use Rattle.std.proofs.Common.{◌≡◌, ℕ, zero, suc, ◌≤◌, List, [], ◌∷◌, ◌++◌, map, Bool, true, false, Option, Some, None, refl, sym, subst, arith}
use Rattle.std.specs.Prelude.{codes, max, IfSome}
use Rattle.std.specs.Option.{option_map}
use Rattle.std.specs.List.{AllByRecursion}
use Rattle.dt_base.specs.names.Grammar.{Identifier}
use Rattle.json_decimal.specs.Number.{Number}
use Rattle.json_tree.specs.Values.{Json, null, truth, number, text, array, object, Elements, no_elements, element, elements_of, Members, no_members, member, members_of}
use Rattle.json_tree.specs.Printing.{NestsWithin, ElementsNestWithin, MembersNestWithin}
use Rattle.dtdl_terms.specs.Terms.{SchemaTerm, primitive, named, array_of, enumeration, map_of, object_of, PayloadTerm, payload, PayloadTerms, no_payloads, more_payloads, ContentTerm, content, KindTerm, telemetry, property, command, relationship, component, ContentTerms, no_contents, more_contents}
use Rattle.dtdl_terms.specs.TermViews.{schema_term, content_term}
use Rattle.dtdl_terms.specs.declared.common.Common.{Common}
use Rattle.dtdl_terms.specs.declared.common.Entry.{Entry}
use Rattle.dtdl_terms.specs.declared.common.Localized.{Localized}
use Rattle.dtdl_terms.specs.declared.enumeration.EnumEntry.{EnumEntry}
use Rattle.dtdl_terms.specs.declared.enumeration.EnumValue.{EnumValue}
use Rattle.dtdl_terms.specs.declared.enumeration.EnumValue.TheVariants as values
use Rattle.dtdl_terms.specs.declared.interface.Interface.{Interface}
use Rattle.local_rules.specs.declared.role.Position.TheVariants as position
use Rattle.local_rules.specs.Typed.{IsPropertyTerm, ContentIsTyped, PropertiesAreTyped, IsTyped}
use Rattle.local_rules.specs.Limits.{levels, payload_levels, payloads_levels, OuterSchemaIsWithin, OuterPayloadIsWithin, KindIsWithin, ContentIsWithin, ContentsAreWithin, IsWithinLimits}
use Rattle.canon_text.specs.Sorting.{sorted_by}
use Rattle.canon_text.specs.Objects.{present, object_of_parts, members_in_order, list_in_order, unless_empty}
use Rattle.canon_text.specs.Canonical.{id_value, entry_pair, localized_value, element_parts, enum_value, enum_entry_pair, value_schema_json, schema_value, payload_value, payload_pairs, schema_pair, typed, kind_type, writable_value, most_value, kind_parts, content_value, content_pairs, content_pair, parent_pair, interface_value, interface_pair, set_value}
use Rattle.canon_text.specs.Machinery.Pairs.{pair_name, pair_value}
use Rattle.canon_text.proofs.Told.{all_with, all_mapped, all_sorted}
use Rattle.canon_laws.proofs.Tables.{Pairs, Parts}
use Rattle.canon_text.proofs.Elements.{all_both}

-- ---- a value that nests within a depth nests within a greater one
more_room : (inner e : ℕ) → suc inner ≤ e → (f : ℕ) × (e ≡ suc f) × (inner ≤ f)
more_room inner zero le = absurd (omega arith)
more_room inner (suc f) le = (f, refl, omega arith)

mutual
  pub deeper : (v : Json) (d e : ℕ) → d ≤ e → NestsWithin d v → NestsWithin e v
  deeper null d e le h = tt
  deeper (truth b) d e le h = tt
  deeper (number n) d e le h = tt
  deeper (text b) d e le h = tt
  deeper (array vs) d e le h =
      let r = more_room h.0 e (let is = h.1 in omega arith) in
      (r.0, r.1, elements_deeper vs h.0 r.0 r.2 h.2)
  deeper (object ms) d e le h =
      let r = more_room h.0 e (let is = h.1 in omega arith) in
      (r.0, r.1, members_deeper ms h.0 r.0 r.2 h.2)

  elements_deeper : (vs : Elements Number) (d e : ℕ) → d ≤ e → ElementsNestWithin d vs → ElementsNestWithin e vs
  elements_deeper no_elements d e le h = tt
  elements_deeper (element v vs) d e le h = (deeper v d e le h.0, elements_deeper vs d e le h.1)

  members_deeper : (ms : Members Number) (d e : ℕ) → d ≤ e → MembersNestWithin d ms → MembersNestWithin e ms
  members_deeper no_members d e le h = tt
  members_deeper (member k v ms) d e le h = (deeper v d e le h.0, members_deeper ms d e le h.1)

-- ---- objects and lists
abbrev PartsNest : ℕ → Parts → Type 0
PartsNest d [] = Unit {0}
PartsNest d (p ∷ ps) = IfSome p.1 (NestsWithin d) × PartsNest d ps

abbrev PairNests : ℕ → List ℕ × Json → Type 0
PairNests d m = NestsWithin d (pair_value m)

parts_nest : (d : ℕ) (ps : Parts) → PartsNest d ps → MembersNestWithin d (members_of (present ps))
parts_nest d [] h = tt
parts_nest d ((k, None) ∷ ps) h = parts_nest d ps h.1
parts_nest d ((k, Some v) ∷ ps) h = (h.0, parts_nest d ps h.1)

object_nests : (d : ℕ) (ps : Parts) → PartsNest d ps → NestsWithin (suc d) (object_of_parts ps)
object_nests d ps h = (d, refl, parts_nest d ps h)

elements_nest : (d : ℕ) (ms : Pairs) → AllByRecursion (PairNests d) ms → ElementsNestWithin d (elements_of (map pair_value ms))
elements_nest d [] h = tt
elements_nest d (m ∷ ms) h = (h.0, elements_nest d ms h.1)

members_nest : (d : ℕ) (ms : Pairs) → AllByRecursion (PairNests d) ms → MembersNestWithin d (members_of ms)
members_nest d [] h = tt
members_nest d (m ∷ ms) h = (h.0, members_nest d ms h.1)

list_nests : (d : ℕ) (ms : Pairs) → AllByRecursion (PairNests d) ms → NestsWithin (suc d) (list_in_order ms)
list_nests d ms h = (d, refl, elements_nest d (sorted_by pair_name ms) (all_sorted pair_name (PairNests d) ms h))

optional_list_nests : (d : ℕ) (ms : Pairs) → AllByRecursion (PairNests d) ms → IfSome (unless_empty list_in_order ms) (NestsWithin (suc d))
optional_list_nests d [] h = tt
optional_list_nests d (m ∷ ms) h = list_nests d (m ∷ ms) h

optional_members_nest : (d : ℕ) (ms : Pairs) → AllByRecursion (PairNests d) ms → IfSome (unless_empty members_in_order ms) (NestsWithin (suc d))
optional_members_nest d [] h = tt
optional_members_nest d (m ∷ ms) h = (d, refl, members_nest d (sorted_by pair_name (m ∷ ms)) (all_sorted pair_name (PairNests d) (m ∷ ms) h))

-- ---- what every element may have
text_nests : (d : ℕ) (o : Option (List ℕ)) → IfSome {T = Json} (option_map text o) (NestsWithin d)
text_nests d None = tt
text_nests d (Some t) = tt

id_nests : (d : ℕ) (o : Option Identifier) → IfSome (option_map id_value o) (NestsWithin d)
id_nests d None = tt
id_nests d (Some i) = tt

localized_nests : (d : ℕ) (l : Localized) → IfSome (localized_value l) (NestsWithin (suc d))
localized_nests d l = optional_members_nest d (map entry_pair l.entries) (all_mapped entry_pair (PairNests d) l.entries (each l.entries))
  where
    each : (es : List Entry) → AllByRecursion (λ e. PairNests d (entry_pair e)) es
    each [] = tt
    each (e ∷ es) = (tt, each es)

element_nests : (d : ℕ) (type : Option Json) (c : Common) (own : Parts) → IfSome type (NestsWithin (suc d)) → PartsNest (suc d) own → PartsNest (suc d) (element_parts type c ++ own)
element_nests d type c own h g =
    (id_nests (suc d) c.id, (h, (text_nests (suc d) c.comment, (localized_nests d c.description, (localized_nests d c.display_name, g)))))

-- ---- enums
enum_value_nests : (d : ℕ) (v : EnumValue) → NestsWithin d (enum_value v)
enum_value_nests d (values.Number z) = tt
enum_value_nests d (values.Word b) = tt

enum_entries_nest : (d : ℕ) (es : List EnumEntry) → AllByRecursion (λ e. PairNests (suc (suc d)) (enum_entry_pair e)) es
enum_entries_nest d [] = tt
enum_entries_nest d (e ∷ es) = (
  object_nests (suc d) (element_parts None e.common ++ (codes "enumValue", Some (enum_value e.value)) ∷ (codes "name", Some (text e.name)) ∷ [])
      (element_nests d None e.common ((codes "enumValue", Some (enum_value e.value)) ∷ (codes "name", Some (text e.name)) ∷ []) tt (enum_value_nests (suc d) e.value, (tt, tt))),
  enum_entries_nest d es,
)

value_schema_nests : (d : ℕ) (b : Bool) → NestsWithin d (value_schema_json b)
value_schema_nests d true = tt
value_schema_nests d false = tt

-- ---- schemas and payloads
-- how deep a schema of so many levels nests at most
abbrev room : ℕ → ℕ
room zero = 1
room (suc n) = suc (suc (suc (room n)))

some_room : (n : ℕ) → (f : ℕ) × (room n ≡ suc f)
some_room zero = (0, refl)
some_room (suc n) = (suc (suc (room n)), refl)

mutual
  schema_nests : (s : SchemaTerm) (n : ℕ) → levels s ≤ n → NestsWithin (room n) (schema_value s)
  schema_nests (primitive p) n le = tt
  schema_nests (named id) n le = tt
  schema_nests (array_of c s) zero le = absurd (omega arith)
  schema_nests (array_of c s) (suc n) le =
      object_nests (suc (suc (room n))) (element_parts (Some (text (codes "Array"))) c ++ (codes "elementSchema", Some (schema_value s)) ∷ [])
      (element_nests (suc (room n)) (Some (text (codes "Array"))) c ((codes "elementSchema", Some (schema_value s)) ∷ []) tt
      (deeper (schema_value s) (room n) (suc (suc (room n))) (omega arith) (schema_nests s n (omega arith)), tt))
  schema_nests (enumeration c a es) zero le = absurd (omega arith)
  schema_nests (enumeration c a es) (suc n) le =
      let some = some_room n in
      let entries : AllByRecursion (λ e. PairNests (suc (room n)) (enum_entry_pair e)) es =
      subst (λ (r : ℕ). AllByRecursion (λ e. PairNests (suc r) (enum_entry_pair e)) es) (sym some.1) (enum_entries_nest some.0 es) in
      let own : Parts = (codes "enumValues", Some (list_in_order (map enum_entry_pair es))) ∷ (codes "valueSchema", Some (value_schema_json a)) ∷ [] in
      object_nests (suc (suc (room n))) (element_parts (Some (text (codes "Enum"))) c ++ own)
      (element_nests (suc (room n)) (Some (text (codes "Enum"))) c own tt
      (list_nests (suc (room n)) (map enum_entry_pair es) (all_mapped enum_entry_pair (PairNests (suc (room n))) es entries), (value_schema_nests (suc (suc (room n))) a, tt)))
  schema_nests (map_of c k v) zero le = absurd (omega arith)
  schema_nests (map_of c k v) (suc n) le =
      let own : Parts = (codes "mapKey", Some (payload_value k)) ∷ (codes "mapValue", Some (payload_value v)) ∷ [] in
      let both : max (payload_levels k) (payload_levels v) ≤ n = omega arith in
      let first = payload_nests k n (grind arith) in
      let second = payload_nests v n (grind arith) in
      object_nests (suc (suc (room n))) (element_parts (Some (text (codes "Map"))) c ++ own)
      (element_nests (suc (room n)) (Some (text (codes "Map"))) c own tt
      (deeper (payload_value k) (suc (room n)) (suc (suc (room n))) (omega arith) first, (deeper (payload_value v) (suc (room n)) (suc (suc (room n))) (omega arith) second, tt)))
  schema_nests (object_of c ps) zero le = absurd (omega arith)
  schema_nests (object_of c ps) (suc n) le =
      let own : Parts = (codes "fields", Some (list_in_order (payload_pairs ps))) ∷ [] in
      object_nests (suc (suc (room n))) (element_parts (Some (text (codes "Object"))) c ++ own)
      (element_nests (suc (room n)) (Some (text (codes "Object"))) c own tt (list_nests (suc (room n)) (payload_pairs ps) (payloads_nest ps n (omega arith)), tt))

  payload_nests : (p : PayloadTerm) (n : ℕ) → payload_levels p ≤ n → NestsWithin (suc (room n)) (payload_value p)
  payload_nests (payload m c s) n le =
      let own : Parts = (codes "name", Some (text m)) ∷ (codes "schema", Some (schema_value s)) ∷ [] in
      let some = some_room n in
      let inner : PartsNest (suc some.0) own = (tt, (subst (λ (r : ℕ). NestsWithin r (schema_value s)) some.1 (schema_nests s n le), tt)) in
      object_nests (room n) (element_parts None c ++ own)
      (subst (λ (r : ℕ). PartsNest r (element_parts None c ++ own)) (sym some.1) (element_nests some.0 None c own tt inner))

  payloads_nest : (ps : PayloadTerms) (n : ℕ) → payloads_levels ps ≤ n → AllByRecursion (PairNests (suc (room n))) (payload_pairs ps)
  payloads_nest no_payloads n le = tt
  payloads_nest (more_payloads p ps) n le = (payload_nests p n (grind arith), payloads_nest ps n (grind arith))

-- ---- contents
typed_nests : (d : ℕ) (type : List ℕ) (o : Option (List ℕ)) → NestsWithin (suc d) (typed type o)
typed_nests d type None = tt
typed_nests d type (Some s) = (d, refl, (tt, (tt, tt)))

kind_type_nests : (d : ℕ) (k : KindTerm) → NestsWithin (suc d) (kind_type k)
kind_type_nests d (telemetry s a u) = typed_nests d (codes "Telemetry") a
kind_type_nests d (property s a u w) = typed_nests d (codes "Property") a
kind_type_nests d (command q r) = tt
kind_type_nests d (relationship t cs m w) = tt
kind_type_nests d (component of) = tt

writable_nests : (d : ℕ) (b : Bool) → IfSome (writable_value b) (NestsWithin d)
writable_nests d true = tt
writable_nests d false = tt

most_nests : (d : ℕ) (o : Option ℕ) → IfSome (option_map most_value o) (NestsWithin d)
most_nests d None = tt
most_nests d (Some n) = tt

payload_option_nests : (o : Option PayloadTerm) → IfSome o OuterPayloadIsWithin → IfSome (option_map payload_value o) (NestsWithin 18)
payload_option_nests None h = tt
payload_option_nests (Some p) h = deeper (payload_value p) (suc (room 5)) 18 (omega arith) (payload_nests p 5 h.0)

outer_nests : (s : SchemaTerm) → OuterSchemaIsWithin s → NestsWithin 17 (schema_value s)
outer_nests s h = deeper (schema_value s) (room 5) 17 (omega arith) (schema_nests s 5 h.0)

property_nests : (c : ContentTerm) → IsPropertyTerm c → ContentIsWithin c → NestsWithin 18 (content_value c)
property_nests (content n c (property s a u w)) e h =
    let own : Parts = kind_parts n (property s a u w) in
    object_nests 17 (element_parts (Some (typed (codes "Property") a)) c ++ own)
    (element_nests 16 (Some (typed (codes "Property") a)) c own (typed_nests 16 (codes "Property") a)
    (tt, (outer_nests s h.2.0, (text_nests 17 u, (writable_nests 17 w, tt)))))
property_nests (content n c (telemetry s a u)) e h = absurd cc
property_nests (content n c (command q r)) e h = absurd cc
property_nests (content n c (relationship t cs m w)) e h = absurd cc
property_nests (content n c (component of)) e h = absurd cc

properties_nest : (cs : ContentTerms) → PropertiesAreTyped cs → ContentsAreWithin cs → AllByRecursion (PairNests 18) (content_pairs cs)
properties_nest no_contents t h = tt
properties_nest (more_contents c cs) t h = (property_nests c t.0.0 h.0, properties_nest cs t.1 h.1)

kind_nests : (n : List ℕ) (k : KindTerm) (c : Common) → ContentIsTyped position.Content (content n c k) → KindIsWithin k → PartsNest 19 (kind_parts n k)
kind_nests n (telemetry s a u) c t h = (tt, (deeper (schema_value s) 17 19 (omega arith) (outer_nests s h.0), (text_nests 19 u, tt)))
kind_nests n (property s a u w) c t h = (tt, (deeper (schema_value s) 17 19 (omega arith) (outer_nests s h.0), (text_nests 19 u, (writable_nests 19 w, tt))))
kind_nests n (command q r) c t h = (tt, (payload_deeper q (payload_option_nests q h.0), (payload_deeper r (payload_option_nests r h.1), tt)))
  where
    payload_deeper : (o : Option PayloadTerm) → IfSome (option_map payload_value o) (NestsWithin 18) → IfSome (option_map payload_value o) (NestsWithin 19)
    payload_deeper None g = tt
    payload_deeper (Some p) g = deeper (payload_value p) 18 19 (omega arith) g
kind_nests n (relationship u cs m w) c t h =
    (most_nests 19 m, (tt, (optional_list_nests 18 (content_pairs cs) (properties_nest cs t h.1), (id_nests 19 u, (writable_nests 19 w, tt)))))
kind_nests n (component of) c t h = (tt, (tt, tt))

content_nests : (c : ContentTerm) → ContentIsTyped position.Content c → ContentIsWithin c → NestsWithin 20 (content_value c)
content_nests (content n c k) t h =
    object_nests 19 (element_parts (Some (kind_type k)) c ++ kind_parts n k)
    (element_nests 18 (Some (kind_type k)) c (kind_parts n k) (kind_type_nests 18 k) (kind_nests n k c t h.2))

-- ---- interfaces
parents_nest : (ps : List Identifier) → AllByRecursion (λ p. PairNests 20 (parent_pair p)) ps
parents_nest [] = tt
parents_nest (p ∷ ps) = (tt, parents_nest ps)

pub interface_nests : (i : Interface) → IsTyped i → IsWithinLimits i → NestsWithin 22 (interface_value i)
interface_nests i t h =
    let contents = optional_list_nests 20 (map (λ c. content_pair (content_term c)) i.contents)
    (all_mapped (λ c. content_pair (content_term c)) (PairNests 20) i.contents
    (all_both (λ c. ContentIsTyped position.Content (content_term c)) (λ c. ContentIsWithin (content_term c)) (λ c. PairNests 20 (content_pair (content_term c)))
    (λ c u g. content_nests (content_term c) u g) i.contents t h.contents)) in
    let parents = optional_list_nests 20 (map parent_pair i.parents) (all_mapped parent_pair (PairNests 20) i.parents (parents_nest i.parents)) in
    let schemas = optional_list_nests 20 (map (λ s. schema_pair (schema_term s)) i.schemas)
    (all_mapped (λ s. schema_pair (schema_term s)) (PairNests 20) i.schemas
    (all_with (λ s. OuterSchemaIsWithin (schema_term s)) (λ s. PairNests 20 (schema_pair (schema_term s)))
    (λ s g. deeper (schema_value (schema_term s)) 17 20 (omega arith) (outer_nests (schema_term s) g)) i.schemas h.schemas)) in (
      21,
      refl,
      parts_nest 21 (
          (codes "@context", Some (text (codes "dtmi:dtdl:context;2")))
          ∷ (codes "@id", Some (id_value i.id))
          ∷ (codes "@type", Some (text (codes "Interface")))
          ∷ (codes "comment", option_map text i.comment)
          ∷ (codes "contents", unless_empty list_in_order (map (λ c. content_pair (content_term c)) i.contents))
          ∷ (codes "description", localized_value i.description)
          ∷ (codes "displayName", localized_value i.display_name)
          ∷ (codes "extends", unless_empty list_in_order (map parent_pair i.parents))
          ∷ (codes "schemas", unless_empty list_in_order (map (λ s. schema_pair (schema_term s)) i.schemas))
          ∷ []) (tt, (tt, (tt, (text_nests 21 i.comment, (contents, (localized_nests 20 i.description, (localized_nests 20 i.display_name, (parents, (schemas, tt))))))))),
    )

pub set_nests : (is : List Interface) → AllByRecursion IsTyped is → AllByRecursion IsWithinLimits is → NestsWithin 64 (set_value is)
set_nests is t h =
    deeper (set_value is) 23 64 (omega arith)
    (list_nests 22 (map interface_pair is) (all_mapped interface_pair (PairNests 22) is
    (all_both IsTyped IsWithinLimits (λ i. PairNests 22 (interface_pair i)) (λ i u g. interface_nests i u g) is t h)))

-- Records that declare the same have the same canonical tree.
use Rattle.std.proofs.Common.{◌≡◌, ◌≢◌, ℕ, List, [], ◌∷◌, ◌++◌, map, true, false, Option, Some, None, refl, sym, ap, ◌∙◌, subst}
use Rattle.std.specs.Prelude.{codes, is_some, IfSome}
use Rattle.std.specs.Option.{option_map}
use Rattle.std.specs.List.{AllByRecursion}
use Rattle.dt_base.specs.names.Grammar.{Identifier, dtmi_text}
use Rattle.dt_base.proofs.names.Cuts.{HasDtmiForm-unique}
use Rattle.dt_base.specs.names.Grammar.{HasDtmiForm}
use Rattle.json_tree.specs.Values.{Json, text}
use Rattle.dtdl_terms.specs.Terms.{SchemaTerm, primitive, named, array_of, enumeration, map_of, object_of, PayloadTerm, payload, PayloadTerms, no_payloads, more_payloads, ContentTerm, content, KindTerm, telemetry, property, command, relationship, component, ContentTerms, no_contents, more_contents}
use Rattle.dtdl_terms.specs.TermViews.{schema_term, content_term}
use Rattle.dtdl_terms.specs.Distinct.{AreDistinct, HasDistinctLanguages, HasDistinctTexts, HasDistinctEntries, payload_name, payload_names, SchemaIsDistinct, PayloadIsDistinct, PayloadsAreDistinct, OptionalPayloadIsDistinct, content_name, content_names, KindIsDistinct, ContentIsDistinct, ContentsAreDistinct, schema_id, HasDeclaration}
use Rattle.dtdl_terms.specs.Equality.{SameElements, SameLocalized, SameCommon, SameEnumEntry, payload_list, SameSchema, SamePayload, SameOptionalPayload, content_list, SameKind, SameContent, DeclareTheSame}
use Rattle.dtdl_terms.specs.declared.common.Common.{Common}
use Rattle.dtdl_terms.specs.declared.common.Entry.{Entry}
use Rattle.dtdl_terms.specs.declared.common.Localized.{Localized}
use Rattle.dtdl_terms.specs.declared.content.Content.{Content}
use Rattle.dtdl_terms.specs.declared.schema.Schema.{Schema}
use Rattle.dtdl_terms.specs.declared.enumeration.EnumEntry.{EnumEntry}
use Rattle.dtdl_terms.specs.declared.interface.Interface.{Interface}
use Rattle.dtdl_terms.proofs.SameDeclarations.{same_payloads, same_contents}
use Rattle.canon_text.specs.Objects.{object_of_parts, list_in_order, unless_empty}
use Rattle.canon_text.specs.Canonical.{id_value, entry_pair, localized_value, element_parts, enum_value, enum_entry_pair, value_schema_json, schema_object, schema_value, payload_value, payload_pairs, id_text, schema_pair, typed, kind_type, writable_value, most_value, kind_parts, content_pairs, content_pair, parent_pair, interface_value}
use Rattle.canon_text.specs.Identified.{IsIdentified, InterfaceIsIdentified, SchemaIsIdentified}
use Rattle.canon_text.specs.Machinery.Pairs.{pair_name}
use Rattle.canon_text.proofs.Elements.{Gives, same_mapped, names_mapped, same_list, same_optional_list, same_optional_members}
use Rattle.std.proofs.lemmas.Simd.{map-map}
use Rattle.canon_text.proofs.Told.{all_with, all_mapped, no_both}

abbrev Parts : Type 0
Parts = List (List ℕ × Option Json)

-- ---- what every element may have
localized_same : (l m : Localized) → HasDistinctLanguages l → HasDistinctLanguages m → SameLocalized l m → localized_value l ≡ localized_value m
localized_same l m first second same =
    same_optional_members (map entry_pair l.entries) (map entry_pair m.entries) (names_mapped entry_pair l.entries first) (names_mapped entry_pair m.entries second)
    (same_mapped entry_pair (λ e. Unit {0}) (λ e f. e ≡ f) l.entries m.entries (all_trivial l.entries) (all_unit m.entries) same)
  where
    all_trivial : (es : List Entry) → AllByRecursion (Gives entry_pair (λ e. Unit {0}) (λ e f. e ≡ f)) es
    all_trivial [] = tt
    all_trivial (e ∷ es) = ((λ f d s. ap entry_pair s), all_trivial es)

    all_unit : (es : List Entry) → AllByRecursion (λ e. Unit {0}) es
    all_unit [] = tt
    all_unit (e ∷ es) = (tt, all_unit es)

element_same : (t u : Option Json) (c d : Common) → t ≡ u → HasDistinctTexts c → HasDistinctTexts d → SameCommon c d → element_parts t c ≡ element_parts u d
element_same t u c d type first second same =
    let ids = ap (option_map id_value) same.id in
    let comments = ap (option_map text) same.comment in
    let descriptions = localized_same c.description d.description first.description second.description same.description in
    let names = localized_same c.display_name d.display_name first.display_name second.display_name same.display_name in
    λ i. (codes "@id", ids i) ∷ (codes "@type", type i) ∷ (codes "comment", comments i) ∷ (codes "description", descriptions i) ∷ (codes "displayName", names i) ∷ []

element_object : (t u : Option Json) (c d : Common) (own more : Parts) → t ≡ u → HasDistinctTexts c → HasDistinctTexts d → SameCommon c d → own ≡ more
    → object_of_parts (element_parts t c ++ own) ≡ object_of_parts (element_parts u d ++ more)
element_object t u c d own more type first second same rest =
    let head = element_same t u c d type first second same in
    λ i. object_of_parts (head i ++ rest i)

-- ---- enums
enum_pair_same : (e : EnumEntry) → HasDistinctTexts e.common → Gives enum_entry_pair (λ f. HasDistinctTexts f.common) SameEnumEntry e
enum_pair_same e first f second same =
    let value = element_object None None e.common f.common
    ((codes "enumValue", Some (enum_value e.value)) ∷ (codes "name", Some (text e.name)) ∷ [])
    ((codes "enumValue", Some (enum_value f.value)) ∷ (codes "name", Some (text f.name)) ∷ [])
    refl first second same.common
    (λ i. (codes "enumValue", Some (enum_value (same.value i))) ∷ (codes "name", Some (text (same.name i))) ∷ []) in
    λ i. (same.name i, value i)

enum_list_same : (es fs : List EnumEntry) → HasDistinctEntries es → HasDistinctEntries fs → SameElements SameEnumEntry es fs
    → list_in_order (map enum_entry_pair es) ≡ list_in_order (map enum_entry_pair fs)
enum_list_same es fs first second same =
    same_list (map enum_entry_pair es) (map enum_entry_pair fs) (names_mapped enum_entry_pair es first.0) (names_mapped enum_entry_pair fs second.0)
    (same_mapped enum_entry_pair (λ f. HasDistinctTexts f.common) SameEnumEntry es fs
    (all_with (λ e. HasDistinctTexts e.common) (Gives enum_entry_pair (λ f. HasDistinctTexts f.common) SameEnumEntry) enum_pair_same es first.1) second.1 same)

-- ---- schemas and payloads
abbrev payload_pair : PayloadTerm → List ℕ × Json
payload_pair p = (payload_name p, payload_value p)

payload_pairs_list : (ps : PayloadTerms) → payload_pairs ps ≡ map payload_pair (payload_list ps)
payload_pairs_list no_payloads = refl
payload_pairs_list (more_payloads p ps) = ap (λ (ms : List (List ℕ × Json)). payload_pair p ∷ ms) (payload_pairs_list ps)

payload_names_list : (ps : PayloadTerms) → payload_names ps ≡ map (λ (p : PayloadTerm). pair_name (payload_pair p)) (payload_list ps)
payload_names_list no_payloads = refl
payload_names_list (more_payloads p ps) = ap (λ (ns : List (List ℕ)). payload_name p ∷ ns) (payload_names_list ps)

payloads_distinct : (ps : PayloadTerms) → PayloadsAreDistinct ps → AllByRecursion PayloadIsDistinct (payload_list ps)
payloads_distinct no_payloads d = tt
payloads_distinct (more_payloads p ps) d = (d.0, payloads_distinct ps d.1)

fields_same : (ps qs : PayloadTerms) → AllByRecursion (Gives payload_pair PayloadIsDistinct SamePayload) (payload_list ps) → AreDistinct (payload_names ps)
    → AreDistinct (payload_names qs) → PayloadsAreDistinct qs → SameElements SamePayload (payload_list ps) (payload_list qs)
    → list_in_order (payload_pairs ps) ≡ list_in_order (payload_pairs qs)
fields_same ps qs gives first second ds same =
    ap list_in_order (payload_pairs_list ps)
    ∙ same_list (map payload_pair (payload_list ps)) (map payload_pair (payload_list qs))
    (names_mapped payload_pair (payload_list ps) (subst AreDistinct (payload_names_list ps) first))
    (names_mapped payload_pair (payload_list qs) (subst AreDistinct (payload_names_list qs) second))
    (same_mapped payload_pair PayloadIsDistinct SamePayload (payload_list ps) (payload_list qs) gives (payloads_distinct qs ds) same)
    ∙ ap list_in_order (sym (payload_pairs_list qs))

complex_same : (type : List ℕ) (c d : Common) (own more : Parts) → HasDistinctTexts c → HasDistinctTexts d → SameCommon c d → own ≡ more
    → schema_object type c own ≡ schema_object type d more
complex_same type c d own more first second same rest = element_object (Some (text type)) (Some (text type)) c d own more refl first second same rest

mutual
  schema_same : (s t : SchemaTerm) → SchemaIsDistinct s → SchemaIsDistinct t → SameSchema s t → schema_value s ≡ schema_value t
  schema_same (primitive p) (primitive q) d e same = ap (λ r. schema_value (primitive r)) same
  schema_same (primitive p) other d e same = absurd same
  schema_same (named i) (named j) d e same = ap id_value same
  schema_same (named i) other d e same = absurd same
  schema_same (array_of c s) (array_of f t) d e same =
      let part = schema_same s t d.1 e.1 same.1 in
      complex_same (codes "Array") c f ((codes "elementSchema", Some (schema_value s)) ∷ []) ((codes "elementSchema", Some (schema_value t)) ∷ []) d.0 e.0 same.0
      (λ i. (codes "elementSchema", Some (part i)) ∷ [])
  schema_same (array_of c s) other d e same = absurd same
  schema_same (enumeration c of_text es) (enumeration f of_texts fs) d e same =
      let list = enum_list_same es fs d.1 e.1 same.2 in
      complex_same (codes "Enum") c f
      ((codes "enumValues", Some (list_in_order (map enum_entry_pair es))) ∷ (codes "valueSchema", Some (value_schema_json of_text)) ∷ [])
      ((codes "enumValues", Some (list_in_order (map enum_entry_pair fs))) ∷ (codes "valueSchema", Some (value_schema_json of_texts)) ∷ [])
      d.0 e.0 same.0 (λ i. (codes "enumValues", Some (list i)) ∷ (codes "valueSchema", Some (value_schema_json (same.1 i))) ∷ [])
  schema_same (enumeration c of_text es) other d e same = absurd same
  schema_same (map_of c k v) (map_of f l w) d e same =
      let key = ap (λ (m : List ℕ × Json). m.1) (payload_same k d.1 l e.1 same.1) in
      let value = ap (λ (m : List ℕ × Json). m.1) (payload_same v d.2 w e.2 same.2) in
      complex_same (codes "Map") c f ((codes "mapKey", Some (payload_value k)) ∷ (codes "mapValue", Some (payload_value v)) ∷ [])
      ((codes "mapKey", Some (payload_value l)) ∷ (codes "mapValue", Some (payload_value w)) ∷ [])
      d.0 e.0 same.0 (λ i. (codes "mapKey", Some (key i)) ∷ (codes "mapValue", Some (value i)) ∷ [])
  schema_same (map_of c k v) other d e same = absurd same
  schema_same (object_of c ps) (object_of f qs) d e same =
      let list = fields_same ps qs (payloads_same ps d.2) d.1 e.1 e.2 (same_payloads ps qs same.1 same.2) in
      complex_same (codes "Object") c f ((codes "fields", Some (list_in_order (payload_pairs ps))) ∷ []) ((codes "fields", Some (list_in_order (payload_pairs qs))) ∷ [])
      d.0 e.0 same.0 (λ i. (codes "fields", Some (list i)) ∷ [])
  schema_same (object_of c ps) other d e same = absurd same

  payload_same : (p : PayloadTerm) → PayloadIsDistinct p → Gives payload_pair PayloadIsDistinct SamePayload p
  payload_same (payload n c s) d (payload m f t) e same =
      let part = schema_same s t d.1 e.1 same.2 in
      let value = element_object None None c f ((codes "name", Some (text n)) ∷ (codes "schema", Some (schema_value s)) ∷ [])
      ((codes "name", Some (text m)) ∷ (codes "schema", Some (schema_value t)) ∷ []) refl d.0 e.0 same.1
      (λ i. (codes "name", Some (text (same.0 i))) ∷ (codes "schema", Some (part i)) ∷ []) in
      λ i. (same.0 i, value i)

  payloads_same : (ps : PayloadTerms) → PayloadsAreDistinct ps → AllByRecursion (Gives payload_pair PayloadIsDistinct SamePayload) (payload_list ps)
  payloads_same no_payloads d = tt
  payloads_same (more_payloads p ps) d = (payload_same p d.0, payloads_same ps d.1)

optional_same : (p q : Option PayloadTerm) → OptionalPayloadIsDistinct p → OptionalPayloadIsDistinct q → SameOptionalPayload p q
    → option_map payload_value p ≡ option_map payload_value q
optional_same None None d e same = refl
optional_same None (Some q) d e same = absurd same
optional_same (Some p) None d e same = absurd same
optional_same (Some p) (Some q) d e same = ap (λ (m : List ℕ × Json). Some m.1) (payload_same p d q e same)

-- ---- contents
content_pairs_list : (cs : ContentTerms) → content_pairs cs ≡ map content_pair (content_list cs)
content_pairs_list no_contents = refl
content_pairs_list (more_contents c cs) = ap (λ (ms : List (List ℕ × Json)). content_pair c ∷ ms) (content_pairs_list cs)

content_names_list : (cs : ContentTerms) → content_names cs ≡ map (λ (c : ContentTerm). pair_name (content_pair c)) (content_list cs)
content_names_list no_contents = refl
content_names_list (more_contents c cs) = ap (λ (ns : List (List ℕ)). content_name c ∷ ns) (content_names_list cs)

contents_distinct : (cs : ContentTerms) → ContentsAreDistinct cs → AllByRecursion ContentIsDistinct (content_list cs)
contents_distinct no_contents d = tt
contents_distinct (more_contents c cs) d = (d.0, contents_distinct cs d.1)

properties_same : (cs ds : ContentTerms) → AllByRecursion (Gives content_pair ContentIsDistinct SameContent) (content_list cs) → AreDistinct (content_names cs)
    → AreDistinct (content_names ds) → ContentsAreDistinct ds → SameElements SameContent (content_list cs) (content_list ds)
    → unless_empty list_in_order (content_pairs cs) ≡ unless_empty list_in_order (content_pairs ds)
properties_same cs ds gives first second distinct same =
    ap (unless_empty list_in_order) (content_pairs_list cs)
    ∙ same_optional_list (map content_pair (content_list cs)) (map content_pair (content_list ds))
    (names_mapped content_pair (content_list cs) (subst AreDistinct (content_names_list cs) first))
    (names_mapped content_pair (content_list ds) (subst AreDistinct (content_names_list ds) second))
    (same_mapped content_pair ContentIsDistinct SameContent (content_list cs) (content_list ds) gives (contents_distinct ds distinct) same)
    ∙ ap (unless_empty list_in_order) (sym (content_pairs_list ds))

mutual
  kind_same : (n : List ℕ) (k l : KindTerm) → KindIsDistinct k → KindIsDistinct l → SameKind k l → (kind_type k ≡ kind_type l) × (kind_parts n k ≡ kind_parts n l)
  kind_same n (telemetry s a u) (telemetry t b v) d e same =
      let part = schema_same s t d e same.0 in
      (ap (typed (codes "Telemetry")) same.1, λ i. (codes "name", Some (text n)) ∷ (codes "schema", Some (part i)) ∷ (codes "unit", option_map text (same.2 i)) ∷ [])
  kind_same n (telemetry s a u) other d e same = absurd same
  kind_same n (property s a u w) (property t b v x) d e same =
      let part = schema_same s t d e same.0 in (
        ap (typed (codes "Property")) same.1,
        λ i. (codes "name", Some (text n)) ∷ (codes "schema", Some (part i)) ∷ (codes "unit", option_map text (same.2 i)) ∷ (codes "writable", writable_value (same.3 i)) ∷ [],
      )
  kind_same n (property s a u w) other d e same = absurd same
  kind_same n (command p r) (command q o) d e same =
      let request = optional_same p q d.0 e.0 same.0 in
      let response = optional_same r o d.1 e.1 same.1 in
      (refl, λ i. (codes "name", Some (text n)) ∷ (codes "request", request i) ∷ (codes "response", response i) ∷ [])
  kind_same n (command p r) other d e same = absurd same
  kind_same n (relationship t cs m w) (relationship u ds o x) d e same =
      let list = properties_same cs ds (contents_same cs d.1) d.0 e.0 e.1 (same_contents cs ds same.1 same.2) in (
        refl,
        λ i. (codes "maxMultiplicity", option_map most_value (same.3 i)) ∷ (codes "name", Some (text n)) ∷ (codes "properties", list i)
            ∷ (codes "target", option_map id_value (same.0 i)) ∷ (codes "writable", writable_value (same.4 i)) ∷ [],
      )
  kind_same n (relationship t cs m w) other d e same = absurd same
  kind_same n (component of) (component another) d e same = (refl, λ i. (codes "name", Some (text n)) ∷ (codes "schema", Some (id_value (same i))) ∷ [])
  kind_same n (component of) other d e same = absurd same

  content_same : (c : ContentTerm) → ContentIsDistinct c → Gives content_pair ContentIsDistinct SameContent c
  content_same (content n c k) d (content m f l) e same =
      let own = kind_same n k l d.1 e.1 same.2 in
      let value = element_object (Some (kind_type k)) (Some (kind_type l)) c f (kind_parts n k) (kind_parts m l) (ap Some own.0) d.0 e.0 same.1
      (own.1 ∙ ap (λ (o : List ℕ). kind_parts o l) same.0) in
      λ i. (same.0 i, value i)

  contents_same : (cs : ContentTerms) → ContentsAreDistinct cs → AllByRecursion (Gives content_pair ContentIsDistinct SameContent) (content_list cs)
  contents_same no_contents d = tt
  contents_same (more_contents c cs) d = (content_same c d.0, contents_same cs d.1)

-- ---- identifiers
pub one_id : (i j : Identifier) → IsIdentified i → IsIdentified j → dtmi_text i ≡ dtmi_text j → i ≡ j
one_id i j h g same = HasDtmiForm-unique (dtmi_text i) i j h.text.form (subst (λ (t : List ℕ). HasDtmiForm t j) (sym same) g.text.form)

-- texts of distinct identifiers are distinct
texts_distinct : {A : Type 0} (id : A → Option Identifier) (xs : List A) → AllByRecursion (λ x. IfSome (id x) IsIdentified) xs → AllByRecursion (λ x. is_some (id x) ≡ true) xs
    → AreDistinct (map id xs) → AreDistinct (map (λ x. id_text (id x)) xs)
texts_distinct id [] own some distinct = tt
texts_distinct {A} id (x ∷ xs) own some distinct = (later xs own.1 some.1 distinct.0, texts_distinct id xs own.1 some.1 distinct.1)
  where
    apart : (o p : Option Identifier) → IfSome o IsIdentified → IfSome p IsIdentified → is_some o ≡ true → is_some p ≡ true → o ≢ p → id_text o ≢ id_text p
    apart None p g h s t different same = absurd (no_both false s refl)
    apart (Some i) None g h s t different same = absurd (no_both false t refl)
    apart (Some i) (Some j) g h s t different same = different (ap Some (one_id i j g h same))

    later : (ys : List A) → AllByRecursion (λ y. IfSome (id y) IsIdentified) ys → AllByRecursion (λ y. is_some (id y) ≡ true) ys → AllByRecursion (λ k. id x ≢ k) (map id ys)
        → AllByRecursion (λ k. id_text (id x) ≢ k) (map (λ y. id_text (id y)) ys)
    later [] owns somes distincts = tt
    later (y ∷ ys) owns somes distincts = (apart (id x) (id y) own.0 owns.0 some.0 somes.0 distincts.0, later ys owns.1 somes.1 distincts.1)

parents_distinct : (ps : List Identifier) → AllByRecursion IsIdentified ps → AreDistinct ps → AreDistinct (map (λ p. pair_name (parent_pair p)) ps)
parents_distinct [] own distinct = tt
parents_distinct (p ∷ ps) own distinct = (later ps own.1 distinct.0, parents_distinct ps own.1 distinct.1)
  where
    later : (qs : List Identifier) → AllByRecursion IsIdentified qs → AllByRecursion (λ q. p ≢ q) qs → AllByRecursion (λ k. dtmi_text p ≢ k) (map (λ q. pair_name (parent_pair q)) qs)
    later [] owns distincts = tt
    later (q ∷ qs) owns distincts = ((λ same. distincts.0 (one_id p q own.0 owns.0 same)), later qs owns.1 distincts.1)

-- ---- interfaces
schema_id_own : (s : SchemaTerm) → SchemaIsIdentified s → IfSome (schema_id s) IsIdentified
schema_id_own (primitive p) h = tt
schema_id_own (named id) h = tt
schema_id_own (array_of c s) h = h.0
schema_id_own (enumeration c of_text es) h = h.0
schema_id_own (map_of c k v) h = h.0
schema_id_own (object_of c ps) h = h.0

schema_pair_same : (s : SchemaTerm) → SchemaIsDistinct s → Gives schema_pair SchemaIsDistinct SameSchema s
schema_pair_same s d t e same = let value = schema_same s t d e same in let name = ids s t same in λ i. (id_text (name i), value i)
  where
    ids : (s t : SchemaTerm) → SameSchema s t → schema_id s ≡ schema_id t
    ids (primitive p) (primitive q) same = refl
    ids (primitive p) other same = absurd same
    ids (named i) (named j) same = refl
    ids (named i) other same = absurd same
    ids (array_of c s) (array_of f t) same = same.0.id
    ids (array_of c s) other same = absurd same
    ids (enumeration c a es) (enumeration f b fs) same = same.0.id
    ids (enumeration c a es) other same = absurd same
    ids (map_of c k v) (map_of f l w) same = same.0.id
    ids (map_of c k v) other same = absurd same
    ids (object_of c ps) (object_of f qs) same = same.0.id
    ids (object_of c ps) other same = absurd same

module _ {A B C : Type 0} (term : A → B) (pair : B → C) (D : B → Type 0) (R : B → B → Type 0) where
  same_terms : (xs ys : List A) → AllByRecursion (λ x. Gives pair D R (term x)) xs → AllByRecursion (λ y. D (term y)) ys → SameElements R (map term xs) (map term ys)
      → SameElements (λ m n. m ≡ n) (map (λ x. pair (term x)) xs) (map (λ y. pair (term y)) ys)
  same_terms xs ys gives ds same =
      let mapped = same_mapped pair D R (map term xs) (map term ys) (all_mapped term (Gives pair D R) xs gives) (all_mapped term D ys ds) same in
      subst (λ (ms : List C). SameElements (λ m n. m ≡ n) ms (map (λ y. pair (term y)) ys)) (map-map pair term xs)
      (subst (λ (ns : List C). SameElements (λ m n. m ≡ n) (map pair (map term xs)) ns) (map-map pair term ys) mapped)

parents_same : (ps qs : List Identifier) → AllByRecursion IsIdentified ps → AllByRecursion IsIdentified qs → AreDistinct ps → AreDistinct qs → SameElements (λ p q. p ≡ q) ps qs
    → unless_empty list_in_order (map parent_pair ps) ≡ unless_empty list_in_order (map parent_pair qs)
parents_same ps qs own owns first second same =
    same_optional_list (map parent_pair ps) (map parent_pair qs) (names_mapped parent_pair ps (parents_distinct ps own first)) (names_mapped parent_pair qs (parents_distinct qs owns second))
    (same_mapped parent_pair IsIdentified (λ p q. p ≡ q) ps qs
    (all_with IsIdentified (Gives parent_pair IsIdentified (λ p q. p ≡ q)) (λ p h q g e. ap parent_pair e) ps own) owns same)

pub interface_same : (i j : Interface) → HasDeclaration i → HasDeclaration j → InterfaceIsIdentified i → InterfaceIsIdentified j → DeclareTheSame i j → interface_value i ≡ interface_value j
interface_same i j d e own owns same =
    let ids = ap id_value same.id in
    let comments = ap (option_map text) same.comment in
    let descriptions = localized_same i.description j.description d.description e.description same.description in
    let names = localized_same i.display_name j.display_name d.display_name e.display_name same.display_name in
    let parents = parents_same i.parents j.parents own.parents owns.parents d.parents e.parents same.parents in
    let content : Content → List ℕ × Json = λ c. content_pair (content_term c) in
    let contents = same_optional_list (map content i.contents) (map content j.contents) (names_mapped content i.contents d.names) (names_mapped content j.contents e.names)
    (same_terms content_term content_pair ContentIsDistinct SameContent i.contents j.contents
    (all_with (λ c. ContentIsDistinct (content_term c)) (λ c. Gives content_pair ContentIsDistinct SameContent (content_term c)) (λ c h. content_same (content_term c) h) i.contents d.contents)
    e.contents same.contents) in
    let schema : Schema → List ℕ × Json = λ s. schema_pair (schema_term s) in
    let id : Schema → Option Identifier = λ s. schema_id (schema_term s) in
    let own_ids = all_with (λ s. SchemaIsIdentified (schema_term s)) (λ s. IfSome (id s) IsIdentified) (λ s h. schema_id_own (schema_term s) h) i.schemas own.schemas in
    let other_ids = all_with (λ s. SchemaIsIdentified (schema_term s)) (λ s. IfSome (id s) IsIdentified) (λ s h. schema_id_own (schema_term s) h) j.schemas owns.schemas in
    let schemas = same_optional_list (map schema i.schemas) (map schema j.schemas)
    (names_mapped schema i.schemas (texts_distinct id i.schemas own_ids d.identified d.ids))
    (names_mapped schema j.schemas (texts_distinct id j.schemas other_ids e.identified e.ids))
    (same_terms schema_term schema_pair SchemaIsDistinct SameSchema i.schemas j.schemas
    (all_with (λ s. SchemaIsDistinct (schema_term s)) (λ s. Gives schema_pair SchemaIsDistinct SameSchema (schema_term s)) (λ s h. schema_pair_same (schema_term s) h) i.schemas d.schemas)
    e.schemas same.schemas) in
    λ k. object_of_parts (
    (codes "@context", Some (text (codes "dtmi:dtdl:context;2")))
    ∷ (codes "@id", Some (ids k))
    ∷ (codes "@type", Some (text (codes "Interface")))
    ∷ (codes "comment", comments k)
    ∷ (codes "contents", contents k)
    ∷ (codes "description", descriptions k)
    ∷ (codes "displayName", names k)
    ∷ (codes "extends", parents k)
    ∷ (codes "schemas", schemas k)
    ∷ [])

-- The canonical tree of what a text declares can be printed: its texts and keys are UTF-8, and its numbers are in range and
-- read back.
use Rattle.std.proofs.Common.{◌≡◌, ℕ, zero, suc, ◌%◌, ◌<◌, List, [], ◌∷◌, ◌++◌, map, Bool, true, false, ◌&&◌, is_none, if◌then◌else◌, ℤ, pos, negsuc, Option, Some, None, inl, inr, get_or, lit<, refl, sym, ap, subst, arith}
use Rattle.std.specs.Prelude.{codes, nat_lt, IfSome}
use Rattle.std.specs.Option.{option_map}
use Rattle.std.specs.List.{AllByRecursion, AllZip}
use Rattle.std.specs.Str.{IsUtf8, bytes_eq}
use Rattle.std.proofs.lemmas.Str.{IsUtf8-from_ascii}
use borrow.Author.Tests.{ltb-true}
use Rattle.dt_base.specs.names.Grammar.{Identifier}
use Rattle.json_decimal.specs.Number.{Number}
use Rattle.json_decimal.specs.Comparing.{IsWhole}
use Rattle.json_tree.specs.Values.{Json, null, truth, number, text, array, object, Elements, no_elements, element, elements_of, Members, no_members, member, members_of}
use Rattle.json_tree.specs.Members.{list_of, pairs_of, value_at}
use Rattle.json_tree.specs.Machinery.Pieces.{IsOfTree, AreOfTrees, MembersAreOfTrees}
use Rattle.dtdl_terms.specs.Terms.{SchemaTerm, primitive, named, array_of, enumeration, map_of, object_of, PayloadTerm, payload, PayloadTerms, no_payloads, more_payloads, ContentTerm, content, KindTerm, telemetry, property, command, relationship, component, ContentTerms, no_contents, more_contents}
use Rattle.dtdl_terms.specs.TermViews.{schema_term, content_term}
use Rattle.dtdl_terms.specs.declared.common.Common.{Common}
use Rattle.dtdl_terms.specs.declared.common.Entry.{Entry}
use Rattle.dtdl_terms.specs.declared.common.Localized.{Localized}
use Rattle.dtdl_terms.specs.declared.content.Content.{Content}
use Rattle.dtdl_terms.specs.declared.enumeration.EnumEntry.{EnumEntry}
use Rattle.dtdl_terms.specs.declared.enumeration.EnumValue.{EnumValue}
use Rattle.dtdl_terms.specs.declared.enumeration.EnumValue.TheVariants as values
use Rattle.dtdl_terms.specs.declared.interface.Interface.{Interface}
use Rattle.local_rules.specs.Roles.{named_by}
use Rattle.local_rules.specs.Types.{further}
use Rattle.local_rules.specs.declared.role.Position.{Position}
use Rattle.local_rules.specs.declared.role.Position.TheVariants as position
use Rattle.local_rules.specs.Normal.{IsNormal}
use Rattle.local_rules.specs.Declarations.{HasString, HasOptionalString, HasOptionalId, IsIdentifier, IsTextOfLanguage, IsLocalized, HasLocalized, HasCommon, IsEnumValue, IsEnumEntry, IsSchema, IsPayload, ArePayloads, HasOptionalPayload, HasSchema, AreEntriesOf, IsSemantic, HasMax, AreKind, IsContent, AreProperties, IsContentEntry, HasParents, DeclaresInterface}
use Rattle.local_rules.specs.Soundness.{IsSoundlyDeclared}
use Rattle.local_rules.proofs.NormalForms.{normal_form, normal_once}
use Rattle.json_read.proofs.PrintedAgain.{spelled_printable}
use Rattle.canon_text.specs.Sorting.{sorted_by}
use Rattle.canon_text.specs.Numbers.{sized, whole}
use Rattle.canon_text.specs.Objects.{present, object_of_parts, members_in_order, list_in_order, unless_empty}
use Rattle.canon_text.specs.Canonical.{id_value, entry_pair, localized_value, element_parts, enum_value, enum_entry_pair, enum_entry_value, value_schema_json, schema_value, payload_value, payload_pairs, schema_pair, typed, kind_type, writable_value, most_value, kind_parts, content_value, content_pairs, content_pair, parent_pair, interface_value, interface_pair, set_value}
use Rattle.canon_text.specs.Machinery.Pairs.{pair_name, pair_value}
use Rattle.canon_text.proofs.Told.{all_with, all_mapped, all_sorted}
use Rattle.canon_text.proofs.Wholes.{trimmed}
use Rattle.canon_laws.proofs.Tables.{Pairs, Parts, id_told, string_told, whole_is}

-- ---- keys that are ASCII
abbrev is_ascii : List ℕ → Bool
is_ascii [] = true
is_ascii (b ∷ bytes) = nat_lt b 128 && is_ascii bytes

both : (a b : Bool) → a && b ≡ true → (a ≡ true) × (b ≡ true)
both true b e = (refl, e)
both false b e = absurd (let f : false ≡ true = e in cc)

ascii_at : (bytes : List ℕ) (i : ℕ) → is_ascii bytes ≡ true → get_or bytes i 0 < 128
ascii_at [] zero e = lit< tt
ascii_at [] (suc i) e = lit< tt
ascii_at (b ∷ bytes) zero e = ltb-true b 128 (both (nat_lt b 128) (is_ascii bytes) e).0
ascii_at (b ∷ bytes) (suc i) e = ascii_at bytes i (both (nat_lt b 128) (is_ascii bytes) e).1

ascii_utf8 : (bytes : List ℕ) → is_ascii bytes ≡ true → IsUtf8 bytes
ascii_utf8 bytes e = IsUtf8-from_ascii bytes (λ i. ascii_at bytes i e)

abbrev keys_ascii : Parts → Bool
keys_ascii [] = true
keys_ascii (p ∷ ps) = is_ascii p.0 && keys_ascii ps

-- ---- objects and lists
abbrev PartsPrint : Parts → Type 0
PartsPrint [] = Unit {0}
PartsPrint (p ∷ ps) = IfSome p.1 IsOfTree × PartsPrint ps

-- a value of a list, and a member of an object
abbrev ValuePrints : List ℕ × Json → Type 0
ValuePrints m = IsOfTree (pair_value m)

abbrev MemberPrints : List ℕ × Json → Type 0
MemberPrints m = IsUtf8 (pair_name m) × IsOfTree (pair_value m)

parts_print : (ps : Parts) → keys_ascii ps ≡ true → PartsPrint ps → MembersAreOfTrees (members_of (present ps))
parts_print [] e h = tt
parts_print ((k, None) ∷ ps) e h = parts_print ps (both (is_ascii k) (keys_ascii ps) e).1 h.1
parts_print ((k, Some v) ∷ ps) e h = let keys = both (is_ascii k) (keys_ascii ps) e in (ascii_utf8 k keys.0, h.0, parts_print ps keys.1 h.1)

object_prints : (ps : Parts) → keys_ascii ps ≡ true → PartsPrint ps → IsOfTree (object_of_parts ps)
object_prints ps e h = parts_print ps e h

elements_print : (ms : Pairs) → AllByRecursion ValuePrints ms → AreOfTrees (elements_of (map pair_value ms))
elements_print [] h = tt
elements_print (m ∷ ms) h = (h.0, elements_print ms h.1)

members_print : (ms : Pairs) → AllByRecursion MemberPrints ms → MembersAreOfTrees (members_of ms)
members_print [] h = tt
members_print (m ∷ ms) h = (h.0.0, h.0.1, members_print ms h.1)

list_prints : (ms : Pairs) → AllByRecursion ValuePrints ms → IsOfTree (list_in_order ms)
list_prints ms h = elements_print (sorted_by pair_name ms) (all_sorted pair_name ValuePrints ms h)

optional_list_prints : (ms : Pairs) → AllByRecursion ValuePrints ms → IfSome (unless_empty list_in_order ms) IsOfTree
optional_list_prints [] h = tt
optional_list_prints (m ∷ ms) h = list_prints (m ∷ ms) h

optional_members_print : (ms : Pairs) → AllByRecursion MemberPrints ms → IfSome (unless_empty members_in_order ms) IsOfTree
optional_members_print [] h = tt
optional_members_print (m ∷ ms) h = members_print (sorted_by pair_name (m ∷ ms)) (all_sorted pair_name MemberPrints (m ∷ ms) h)

-- ---- what stands under a key
under : (key : List ℕ) (ms : Members Number) → MembersAreOfTrees ms → IfSome (value_at key ms) IsOfTree
under key no_members h = tt
under key (member k v ms) h = by (bytes_eq k key) (under key ms h.2)
  where
    by : (b : Bool) → IfSome (value_at key ms) IsOfTree → IfSome (if b then Some v else value_at key ms) IsOfTree
    by true later = h.1
    by false later = later

module _ (ms : Members Number) (whole_prints : MembersAreOfTrees ms) where
  at : (key : List ℕ) (o : Option Json) → value_at key ms ≡ o → IfSome o IsOfTree
  at key o is = subst (λ (p : Option Json). IfSome p IsOfTree) is (under key ms whole_prints)

  text_prints : (key : List ℕ) (o : Option (List ℕ)) → HasOptionalString key ms o → IfSome {T = Json} (option_map text o) IsOfTree
  text_prints key o g = at key (option_map text o) (string_told key ms o g)

  id_prints : (key : List ℕ) (o : Option Identifier) → HasOptionalId key ms o → IfSome (option_map id_value o) IsOfTree
  id_prints key o g = at key (option_map id_value o) (id_told key ms o g)

  string_utf8 : (key bytes : List ℕ) → HasString key ms bytes → IsUtf8 bytes
  string_utf8 key bytes g = at key (Some (text bytes)) g

-- the entries of a list
entries_print : (o : Option Json) (vs : Elements Number) → IfSome o IsOfTree → AreEntriesOf o vs → AreOfTrees vs
entries_print None vs h g = subst AreOfTrees (sym g) tt
entries_print (Some v) vs h g = subst IsOfTree g h

module _ {A : Type 0} (Is : Json → A → Type 0) (pair : A → List ℕ × Json) (one : (v : Json) (x : A) → IsOfTree v → Is v x → IsOfTree (pair_value (pair x))) where
  zip_prints : (vs : Elements Number) (xs : List A) → AreOfTrees vs → AllZip Is (list_of vs) xs → AllByRecursion (λ x. ValuePrints (pair x)) xs
  zip_prints no_elements [] h all = tt
  zip_prints no_elements (x ∷ xs) h all = absurd all
  zip_prints (element v vs) [] h all = absurd all
  zip_prints (element v vs) (x ∷ xs) h all = (one v x h.0 all.0, zip_prints vs xs h.1 all.1)

  each_prints : (vs : Elements Number) (xs : List A) → AreOfTrees vs → AllZip Is (list_of vs) xs → AllByRecursion ValuePrints (map pair xs)
  each_prints vs xs h all = all_mapped pair ValuePrints xs (zip_prints vs xs h all)

-- ---- what every element may have
language_prints : (ms : Members Number) (es : List Entry) → MembersAreOfTrees ms → AllZip IsTextOfLanguage (pairs_of ms) es → AllByRecursion (λ e. MemberPrints (entry_pair e)) es
language_prints no_members [] h all = tt
language_prints no_members (e ∷ es) h all = absurd all
language_prints (member k v ms) [] h all = absurd all
language_prints (member k v ms) (e ∷ es) h all = ((subst IsUtf8 all.0.0 h.0, subst IsOfTree all.0.1 h.1), language_prints ms es h.2 all.1)

localized_in : (o : Option Json) (es : List Entry) → IfSome o IsOfTree → IsLocalized o es → AllByRecursion (λ e. MemberPrints (entry_pair e)) es
localized_in None es h g = subst (AllByRecursion (λ e. MemberPrints (entry_pair e))) (sym g) tt
localized_in (Some (text b)) es h g = subst (AllByRecursion (λ e. MemberPrints (entry_pair e))) (sym g) ((ascii_utf8 (codes "en") refl, h), tt)
localized_in (Some (object ns)) es h g = language_prints ns es h g
localized_in (Some null) es h g = absurd g
localized_in (Some (truth b)) es h g = absurd g
localized_in (Some (number n)) es h g = absurd g
localized_in (Some (array vs)) es h g = absurd g

localized_prints : (key : List ℕ) (ms : Members Number) (l : Localized) → MembersAreOfTrees ms → HasLocalized key ms l.entries → IfSome (localized_value l) IsOfTree
localized_prints key ms l h g =
    optional_members_print (map entry_pair l.entries) (all_mapped entry_pair MemberPrints l.entries (localized_in (value_at key ms) l.entries (under key ms h) g))

element_prints : (type : Option Json) (c : Common) (own : Parts) (ms : Members Number) → MembersAreOfTrees ms → HasCommon ms c → IfSome type IsOfTree → PartsPrint own
    → PartsPrint (element_parts type c ++ own)
element_prints type c own ms h g t parts = (
  id_prints ms h (codes "@id") c.id g.id,
  (
    t,
    (
      text_prints ms h (codes "comment") c.comment g.comment,
      (localized_prints (codes "description") ms c.description h g.description, (localized_prints (codes "displayName") ms c.display_name h g.display_name, parts)),
    ),
  ),
)

-- ---- numbers
sized_normal : (b : Bool) (n : ℕ) → IsNormal (sized b n)
sized_normal b zero = record { zero = λ e. refl; other = λ some. absurd (some refl) }
sized_normal b (suc n) = let last = trimmed (suc n) (suc n) 0 (omega arith) (omega arith) in record { zero = λ none. absurd (last (ap (λ (c : ℕ). c % 10) none)); other = λ some. last }

whole_normal : (z : ℤ) → IsNormal (whole z)
whole_normal (pos n) = sized_normal false n
whole_normal (negsuc n) = sized_normal true (suc n)

number_prints : (n : Number) (z : ℤ) → IsOfTree (number n) → IsWhole n z → IsOfTree (number (whole z))
number_prints n z h is =
    subst (λ (m : Number). IsOfTree (number m)) (normal_once n (whole z) z (normal_form _ _ _ n h.0.stands) (whole_normal z) is (whole_is z)) h

-- ---- enums
enum_value_prints : (v : Json) (x : EnumValue) → IsOfTree v → IsEnumValue v x → IsOfTree (enum_value x)
enum_value_prints v (values.Number z) h g = number_prints g.0 z (subst IsOfTree g.1 h) g.2
enum_value_prints v (values.Word b) h g = subst IsOfTree g h

enum_entry_prints : (v : Json) (e : EnumEntry) → IsOfTree v → IsEnumEntry v e → IsOfTree (enum_entry_value e)
enum_entry_prints v e h (ms, is, g) =
    let inside : MembersAreOfTrees ms = subst IsOfTree is h in
    let own : Parts = (codes "enumValue", Some (enum_value e.value)) ∷ (codes "name", Some (text e.name)) ∷ [] in
    object_prints (element_parts None e.common ++ own) refl
    (element_prints None e.common own ms inside g.common tt
    (enum_value_prints g.value.0 e.value (at ms inside (codes "enumValue") (Some g.value.0) g.value.1) g.value.2, (string_utf8 ms inside (codes "name") e.name g.name, tt)))

value_schema_prints : (b : Bool) → IsOfTree (value_schema_json b)
value_schema_prints true = ascii_utf8 (codes "string") refl
value_schema_prints false = ascii_utf8 (codes "integer") refl

-- ---- schemas and payloads
mutual
  schema_prints : (s : SchemaTerm) (v : Json) → IsOfTree v → IsSchema s v → IsOfTree (schema_value s)
  schema_prints (primitive p) v h g = subst IsOfTree g h
  schema_prints (named id) v h g = subst IsOfTree g.0 h
  schema_prints (array_of c s) v h (ms, part, kind, common, there, inner) =
      let inside : MembersAreOfTrees ms = subst IsOfTree kind.0 h in
      let own : Parts = (codes "elementSchema", Some (schema_value s)) ∷ [] in
      object_prints (element_parts (Some (text (codes "Array"))) c ++ own) refl
      (element_prints (Some (text (codes "Array"))) c own ms inside common (ascii_utf8 (codes "Array") refl)
      (schema_prints s part (at ms inside (codes "elementSchema") (Some part) there) inner, tt))
  schema_prints (enumeration c a es) v h (ms, vs, kind, common, asks, there, all) =
      let inside : MembersAreOfTrees ms = subst IsOfTree kind.0 h in
      let own : Parts = (codes "enumValues", Some (list_in_order (map enum_entry_pair es))) ∷ (codes "valueSchema", Some (value_schema_json a)) ∷ [] in
      object_prints (element_parts (Some (text (codes "Enum"))) c ++ own) refl
      (element_prints (Some (text (codes "Enum"))) c own ms inside common (ascii_utf8 (codes "Enum") refl)
      (list_prints (map enum_entry_pair es) (each_prints IsEnumEntry enum_entry_pair enum_entry_prints vs es (at ms inside (codes "enumValues") (Some (array vs)) there) all), (value_schema_prints a, tt)))
  schema_prints (map_of c k e) v h (ms, key, value, kind, common, key_at, key_is, value_at_key, value_is) =
      let inside : MembersAreOfTrees ms = subst IsOfTree kind.0 h in
      let own : Parts = (codes "mapKey", Some (payload_value k)) ∷ (codes "mapValue", Some (payload_value e)) ∷ [] in
      object_prints (element_parts (Some (text (codes "Map"))) c ++ own) refl
      (element_prints (Some (text (codes "Map"))) c own ms inside common (ascii_utf8 (codes "Map") refl)
      (payload_prints k key (at ms inside (codes "mapKey") (Some key) key_at) key_is, (payload_prints e value (at ms inside (codes "mapValue") (Some value) value_at_key) value_is, tt)))
  schema_prints (object_of c ps) v h (ms, vs, kind, common, there, all) =
      let inside : MembersAreOfTrees ms = subst IsOfTree kind.0 h in
      let own : Parts = (codes "fields", Some (list_in_order (payload_pairs ps))) ∷ [] in
      object_prints (element_parts (Some (text (codes "Object"))) c ++ own) refl
      (element_prints (Some (text (codes "Object"))) c own ms inside common (ascii_utf8 (codes "Object") refl)
      (list_prints (payload_pairs ps) (payloads_print ps vs (at ms inside (codes "fields") (Some (array vs)) there) all), tt))

  payload_prints : (p : PayloadTerm) (v : Json) → IsOfTree v → IsPayload p v → IsOfTree (payload_value p)
  payload_prints (payload n c s) v h (ms, part, is, name, common, there, inner) =
      let inside : MembersAreOfTrees ms = subst IsOfTree is h in
      let own : Parts = (codes "name", Some (text n)) ∷ (codes "schema", Some (schema_value s)) ∷ [] in
      object_prints (element_parts None c ++ own) refl
      (element_prints None c own ms inside common tt
      (string_utf8 ms inside (codes "name") n name, (schema_prints s part (at ms inside (codes "schema") (Some part) there) inner, tt)))

  payloads_print : (ps : PayloadTerms) (vs : Elements Number) → AreOfTrees vs → ArePayloads ps vs → AllByRecursion ValuePrints (payload_pairs ps)
  payloads_print no_payloads vs h g = tt
  payloads_print (more_payloads p ps) no_elements h g = absurd g
  payloads_print (more_payloads p ps) (element v vs) h g = (payload_prints p v h.0 g.0, payloads_print ps vs h.1 g.1)

optional_payload_prints : (key : List ℕ) (ms : Members Number) (o : Option PayloadTerm) → MembersAreOfTrees ms → HasOptionalPayload key ms o → IfSome (option_map payload_value o) IsOfTree
optional_payload_prints key ms None h g = tt
optional_payload_prints key ms (Some p) h g = payload_prints p g.0 (at ms h key (Some g.0) g.1) g.2

has_schema_prints : (ms : Members Number) (s : SchemaTerm) → MembersAreOfTrees ms → HasSchema (codes "schema") ms s → IsOfTree (schema_value s)
has_schema_prints ms s h g = schema_prints s g.0 (at ms h (codes "schema") (Some g.0) g.1) g.2

-- ---- contents
further_print : (p : Position) (vs : Elements Number) → AreOfTrees vs → AllByRecursion IsOfTree (further p (list_of vs))
further_print p no_elements h = tt
further_print p (element v vs) h = by (is_none (named_by p v)) (further_print p vs h.1)
  where
    by : (b : Bool) → AllByRecursion IsOfTree (further p (list_of vs)) → AllByRecursion IsOfTree (if b then v ∷ further p (list_of vs) else further p (list_of vs))
    by true later = (h.0, later)
    by false later = later

semantic_prints : (p : Position) (type : List ℕ) (o : Option Json) (semantic : Option (List ℕ)) → is_ascii type ≡ true → IfSome o IsOfTree → IsSemantic p o semantic
    → IsOfTree (typed type semantic)
semantic_prints p type o None e h g = ascii_utf8 type e
semantic_prints p type (Some (array vs)) (Some name) e h g = (ascii_utf8 type e, ((subst (AllByRecursion IsOfTree) g (further_print p vs h)).0, tt))
semantic_prints p type None (Some name) e h g = absurd g
semantic_prints p type (Some null) (Some name) e h g = absurd g
semantic_prints p type (Some (truth b)) (Some name) e h g = absurd g
semantic_prints p type (Some (number n)) (Some name) e h g = absurd g
semantic_prints p type (Some (text b)) (Some name) e h g = absurd g
semantic_prints p type (Some (object ms)) (Some name) e h g = absurd g

writable_prints : (b : Bool) → IfSome (writable_value b) IsOfTree
writable_prints true = tt
writable_prints false = tt

most_prints : (ms : Members Number) (o : Option ℕ) → MembersAreOfTrees ms → HasMax ms o → IfSome (option_map most_value o) IsOfTree
most_prints ms None h g = tt
most_prints ms (Some m) h g = number_prints g.0 (pos m) (at ms h (codes "maxMultiplicity") (Some (number g.0)) g.1) g.2

keys_of_kind : (n : List ℕ) (k : KindTerm) (c : Common) → keys_ascii (element_parts (Some (kind_type k)) c ++ kind_parts n k) ≡ true
keys_of_kind n (telemetry s a u) c = refl
keys_of_kind n (property s a u w) c = refl
keys_of_kind n (command q r) c = refl
keys_of_kind n (relationship t cs m w) c = refl
keys_of_kind n (component of) c = refl

kind_type_prints : (p : Position) (k : KindTerm) (ms : Members Number) → MembersAreOfTrees ms → AreKind p k ms → IsOfTree (kind_type k)
kind_type_prints p (telemetry s a u) ms h g = semantic_prints p (codes "Telemetry") (value_at (codes "@type") ms) a refl (under (codes "@type") ms h) g.1
kind_type_prints p (property s a u w) ms h g = semantic_prints p (codes "Property") (value_at (codes "@type") ms) a refl (under (codes "@type") ms h) g.1
kind_type_prints p (command q r) ms h g = ascii_utf8 (codes "Command") refl
kind_type_prints p (relationship t cs m w) ms h g = ascii_utf8 (codes "Relationship") refl
kind_type_prints p (component of) ms h g = ascii_utf8 (codes "Component") refl

mutual
  kind_prints : (p : Position) (n : List ℕ) (k : KindTerm) (ms : Members Number) → MembersAreOfTrees ms → IsUtf8 n → AreKind p k ms → PartsPrint (kind_parts n k)
  kind_prints p n (telemetry s a u) ms h name g = (name, (has_schema_prints ms s h g.0, (text_prints ms h (codes "unit") u g.2, tt)))
  kind_prints p n (property s a u w) ms h name g = (name, (has_schema_prints ms s h g.0, (text_prints ms h (codes "unit") u g.2, (writable_prints w, tt))))
  kind_prints p n (command q r) ms h name g =
      (name, (optional_payload_prints (codes "request") ms q h g.0, (optional_payload_prints (codes "response") ms r h g.1, tt)))
  kind_prints p n (relationship t cs m w) ms h name g =
      let entries = entries_print (value_at (codes "properties") ms) g.1.0 (under (codes "properties") ms h) g.1.1 in
      (most_prints ms m h g.2, (name, (optional_list_prints (content_pairs cs) (properties_print cs g.1.0 entries g.1.2), (id_prints ms h (codes "target") t g.0, (writable_prints w, tt)))))
  kind_prints p n (component of) ms h name g = (name, (id_prints ms h (codes "schema") (Some of) g, tt))

  content_prints : (p : Position) (c : ContentTerm) (v : Json) → IsOfTree v → IsContent p c v → IsOfTree (content_value c)
  content_prints p (content n c k) v h (ms, is, name, common, kind) =
      let inside : MembersAreOfTrees ms = subst IsOfTree is h in
      object_prints (element_parts (Some (kind_type k)) c ++ kind_parts n k) (keys_of_kind n k c)
      (element_prints (Some (kind_type k)) c (kind_parts n k) ms inside common (kind_type_prints p k ms inside kind)
      (kind_prints p n k ms inside (string_utf8 ms inside (codes "name") n name) kind))

  properties_print : (cs : ContentTerms) (vs : Elements Number) → AreOfTrees vs → AreProperties cs vs → AllByRecursion ValuePrints (content_pairs cs)
  properties_print no_contents vs h g = tt
  properties_print (more_contents c cs) no_elements h g = absurd g
  properties_print (more_contents c cs) (element v vs) h g = (content_prints position.Property c v h.0 g.0.0, properties_print cs vs h.1 g.1)

-- ---- interfaces
parents_print : (o : Option Json) (ids : List Identifier) → IfSome o IsOfTree → HasParents o ids → AllByRecursion (λ id. ValuePrints (parent_pair id)) ids
parents_print None ids h g = subst (AllByRecursion (λ id. ValuePrints (parent_pair id))) (sym g) tt
parents_print (Some v) ids h (inl (id, one, is)) = subst (AllByRecursion (λ id. ValuePrints (parent_pair id))) (sym one) (subst IsOfTree is.0 h, tt)
parents_print (Some v) ids h (inr (vs, is, all)) = zip_prints IsIdentifier parent_pair (λ w id prints g. subst IsOfTree g.0 prints) vs ids (subst IsOfTree is h) all

interface_prints : (ms : Members Number) (i : Interface) → MembersAreOfTrees ms → DeclaresInterface ms i → IsOfTree (interface_value i)
interface_prints ms i h g =
    let contents = optional_list_prints (map (λ c. content_pair (content_term c)) i.contents)
    (each_prints IsContentEntry (λ c. content_pair (content_term c)) (λ v c prints is. content_prints position.Content (content_term c) v prints is.1) g.contents.0 i.contents
    (entries_print (value_at (codes "contents") ms) g.contents.0 (under (codes "contents") ms h) g.contents.1) g.contents.2) in
    let schemas = optional_list_prints (map (λ s. schema_pair (schema_term s)) i.schemas)
    (each_prints (λ v s. IsSchema (schema_term s) v) (λ s. schema_pair (schema_term s)) (λ v s prints is. schema_prints (schema_term s) v prints is) g.schemas.0 i.schemas
    (entries_print (value_at (codes "schemas") ms) g.schemas.0 (under (codes "schemas") ms h) g.schemas.1) g.schemas.2) in
    let parents = optional_list_prints (map parent_pair i.parents)
    (all_mapped parent_pair ValuePrints i.parents (parents_print (value_at (codes "extends") ms) i.parents (under (codes "extends") ms h) g.parents)) in
    object_prints (
    (codes "@context", Some (text (codes "dtmi:dtdl:context;2")))
    ∷ (codes "@id", Some (id_value i.id))
    ∷ (codes "@type", Some (text (codes "Interface")))
    ∷ (codes "comment", option_map text i.comment)
    ∷ (codes "contents", unless_empty list_in_order (map (λ c. content_pair (content_term c)) i.contents))
    ∷ (codes "description", localized_value i.description)
    ∷ (codes "displayName", localized_value i.display_name)
    ∷ (codes "extends", unless_empty list_in_order (map parent_pair i.parents))
    ∷ (codes "schemas", unless_empty list_in_order (map (λ s. schema_pair (schema_term s)) i.schemas))
    ∷ []) refl (
      ascii_utf8 (codes "dtmi:dtdl:context;2") refl,
      (
        id_prints ms h (codes "@id") (Some i.id) g.id,
        (
          ascii_utf8 (codes "Interface") refl,
          (
            text_prints ms h (codes "comment") i.comment g.comment,
            (
              contents,
              (
                localized_prints (codes "description") ms i.description h g.description,
                (localized_prints (codes "displayName") ms i.display_name h g.display_name, (parents, (schemas, tt))),
              ),
            ),
          ),
        ),
      ),
    )

pub declared_prints : (i : Interface) → IsSoundlyDeclared i → IsOfTree (interface_value i)
declared_prints i s = interface_prints s.members i (spelled_printable s.bytes (object s.members) s.spelled).0 s.declares

pub set_prints : (is : List Interface) → AllByRecursion IsSoundlyDeclared is → IsOfTree (set_value is)
set_prints is sound = list_prints (map interface_pair is)
    (all_mapped interface_pair ValuePrints is (all_with IsSoundlyDeclared (λ i. ValuePrints (interface_pair i)) declared_prints is sound))

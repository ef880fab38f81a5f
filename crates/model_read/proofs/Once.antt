-- What every element may have, enum entries, schemas and payloads: a JSON value declares each of them at most once.
use Rattle.std.proofs.Common.{◌≡◌, ℕ, List, [], ◌∷◌, Bool, true, false, if◌then◌else◌, nat_eq, bytes_eq, Option, Some, None, refl, sym, ap, ap₂, subst, ◌∙◌}
use Rattle.std.specs.Prelude.{codes}
use Rattle.std.specs.List.{AllZip, starts_with}
use Rattle.dt_base.specs.names.Grammar.{Identifier, HasDtmiForm, dtmi_text}
use Rattle.dt_base.proofs.names.Cuts.{HasDtmiForm-unique}
use Rattle.json_decimal.specs.Number.{Number}
use Rattle.json_decimal.specs.Comparing.{IsWhole}
use Rattle.json_decimal.proofs.Wholes.{one_whole}
use Rattle.json_tree.specs.Values.{Json, null, truth, number, text, array, object, Elements, no_elements, element, Members}
use Rattle.dtdl_terms.specs.Primitives.{primitive_name}
use Rattle.dtdl_terms.specs.Terms.{SchemaTerm, primitive, named, array_of, enumeration, map_of, object_of, PayloadTerm, payload, PayloadTerms, no_payloads, more_payloads}
use Rattle.dtdl_terms.specs.declared.common.Common.{Common}
use Rattle.dtdl_terms.specs.declared.common.Entry.{Entry}
use Rattle.dtdl_terms.specs.declared.enumeration.EnumEntry.{EnumEntry}
use Rattle.dtdl_terms.specs.declared.enumeration.EnumValue.{EnumValue}
use Rattle.dtdl_terms.specs.declared.enumeration.EnumValue.TheVariants as values
use Rattle.dtdl_terms.specs.declared.primitive.Primitive.{Primitive}
use Rattle.dtdl_terms.specs.declared.primitive.Primitive.TheVariants as primitives
use Rattle.json_tree.specs.Members.{list_of, pairs_of, value_at}
use Rattle.local_rules.specs.Roles.{type_of}
use Rattle.local_rules.specs.declared.role.Element.{Element}
use Rattle.local_rules.specs.declared.role.Element.TheVariants as element_kind
use Rattle.local_rules.specs.declared.role.Position.TheVariants as position
use Rattle.local_rules.specs.Declarations.{HasString, HasOptionalString, IsIdentifier, HasId, HasOptionalId, DeclaresWritable, IsTextOfLanguage, IsLocalizedBy, IsLocalized, HasLocalized, HasCommon, IsEnumValue, DeclaresEnumEntry, IsEnumEntry, value_schema, IsSchemaObject, IsSchema, IsPayload, ArePayloads, HasOptionalPayload, HasSchema}

-- ---- forms of relations
pub same_members : (v : Json) (ms ns : Members Number) → v ≡ object ms → v ≡ object ns → ns ≡ ms
same_members v ms ns g h = cc

pub option_once : {A : Type 0} (R : Option A → Type 0) → ((a b : A) → R (Some a) → R (Some b) → a ≡ b) → ((a : A) → R None → R (Some a) → ⊥)
    → (x y : Option A) → R x → R y → x ≡ y
option_once R some none None None g h = refl
option_once R some none None (Some b) g h = absurd (none b g h)
option_once R some none (Some a) None g h = absurd (none a h g)
option_once {A = A} R some none (Some a) (Some b) g h = ap (λ (x : A). Some x) (some a b g h)

-- what the elements of a list are, one for one
pub all_zip_once : {A B : Type 0} (P : B → A → Type 0) → ((v : B) (a b : A) → P v a → P v b → a ≡ b) → (vs : List B) (xs ys : List A) → AllZip P vs xs → AllZip P vs ys
    → xs ≡ ys
all_zip_once P one [] [] [] g h = refl
all_zip_once P one [] [] (b ∷ ys) g h = absurd h
all_zip_once P one [] (a ∷ xs) ys g h = absurd g
all_zip_once P one (v ∷ vs) [] ys g h = absurd g
all_zip_once P one (v ∷ vs) (a ∷ xs) [] g h = absurd h
all_zip_once {A = A} P one (v ∷ vs) (a ∷ xs) (b ∷ ys) g h =
    ap₂ (λ (z : A) (zs : List A). z ∷ zs) (one v a b g.0 h.0) (all_zip_once P one vs xs ys g.1 h.1)

-- what a value under a key is
pub part_once : {A : Type 0} (P : Json → A → Type 0) → ((v : Json) (a b : A) → P v a → P v b → a ≡ b) → (o : Option Json) (a b : A)
    → ((v : Json) × (o ≡ Some v) × P v a) → ((v : Json) × (o ≡ Some v) × P v b) → a ≡ b
part_once P one o a b g h =
    let same : h.0 ≡ g.0 = (let left = g.1 in let right = h.1 in cc) in
    one g.0 a b g.2 (subst (λ (v : Json). P v b) same h.2)

-- what the members of an object are
pub object_once : {A : Type 0} (P : Members Number → A → Type 0) → ((ms : Members Number) (a b : A) → P ms a → P ms b → a ≡ b) → (v : Json) (a b : A)
    → ((ms : Members Number) × (v ≡ object ms) × P ms a) → ((ms : Members Number) × (v ≡ object ms) × P ms b) → a ≡ b
object_once P one v a b g h =
    one g.0 a b g.2 (subst (λ (ms : Members Number). P ms b) (same_members v g.0 h.0 g.1 h.1) h.2)

-- ---- texts, identifiers and truths
pub text_once : (key : List ℕ) (ms : Members Number) (a b : List ℕ) → HasString key ms a → HasString key ms b → a ≡ b
text_once key ms a b g h = cc

pub optional_text_once : (key : List ℕ) (ms : Members Number) (a b : Option (List ℕ)) → HasOptionalString key ms a → HasOptionalString key ms b → a ≡ b
optional_text_once key ms = option_once (HasOptionalString key ms) (text_once key ms) (λ a g h. cc)

pub identifier_once : (v : Json) (i j : Identifier) → IsIdentifier v i → IsIdentifier v j → i ≡ j
identifier_once v i j g h =
    let same : dtmi_text j ≡ dtmi_text i = (let left = g.0 in let right = h.0 in cc) in
    HasDtmiForm-unique (dtmi_text i) i j g.1.text.form (subst (λ (t : List ℕ). HasDtmiForm t j) same h.1.text.form)

pub id_once : (key : List ℕ) (ms : Members Number) (i j : Identifier) → HasId key ms i → HasId key ms j → i ≡ j
id_once key ms = part_once IsIdentifier identifier_once (value_at key ms)

pub optional_id_once : (key : List ℕ) (ms : Members Number) (i j : Option Identifier) → HasOptionalId key ms i → HasOptionalId key ms j → i ≡ j
optional_id_once key ms = option_once (HasOptionalId key ms) (id_once key ms) (λ i g h. let there = h.1 in cc)

pub writable_once : (o : Option Json) (a b : Bool) → DeclaresWritable o a → DeclaresWritable o b → a ≡ b
writable_once None a b g h = g ∙ sym h
writable_once (Some v) a b g h = cc

-- ---- localized texts
text_of_language_once : (m : List ℕ × Json) (e f : Entry) → IsTextOfLanguage m e → IsTextOfLanguage m f → e ≡ f
text_of_language_once m e f g h =
    let language : e.language ≡ f.language = sym g.0 ∙ h.0 in
    let words : e.text ≡ f.text = (let left = g.1 in let right = h.1 in cc) in
    λ i. record { language = language i; text = words i }

localized_by_once : (v : Json) (es fs : List Entry) → IsLocalizedBy v es → IsLocalizedBy v fs → es ≡ fs
localized_by_once (text bytes) es fs g h = g ∙ sym h
localized_by_once (object ms) es fs g h = all_zip_once IsTextOfLanguage text_of_language_once (pairs_of ms) es fs g h
localized_by_once null es fs g h = absurd g
localized_by_once (truth b) es fs g h = absurd g
localized_by_once (number n) es fs g h = absurd g
localized_by_once (array vs) es fs g h = absurd g

localized_in_once : (o : Option Json) (es fs : List Entry) → IsLocalized o es → IsLocalized o fs → es ≡ fs
localized_in_once None es fs g h = g ∙ sym h
localized_in_once (Some v) es fs g h = localized_by_once v es fs g h

pub localized_once : (key : List ℕ) (ms : Members Number) (es fs : List Entry) → HasLocalized key ms es → HasLocalized key ms fs → es ≡ fs
localized_once key ms = localized_in_once (value_at key ms)

pub common_once : (ms : Members Number) (c d : Common) → HasCommon ms c → HasCommon ms d → c ≡ d
common_once ms c d g h =
    let id = optional_id_once (codes "@id") ms c.id d.id g.id h.id in
    let comment = optional_text_once (codes "comment") ms c.comment d.comment g.comment h.comment in
    let description = localized_once (codes "description") ms c.description.entries d.description.entries g.description h.description in
    let display_name = localized_once (codes "displayName") ms c.display_name.entries d.display_name.entries g.display_name h.display_name in
    λ i. record {
      id = id i;
      comment = comment i;
      description = record { entries = description i };
      display_name = record { entries = display_name i };
    }

-- the same of equal members
pub commons_once : (ms ns : Members Number) (c d : Common) → ns ≡ ms → HasCommon ms c → HasCommon ns d → c ≡ d
commons_once ms ns c d same g h = common_once ms c d g (subst (λ (xs : Members Number). HasCommon xs d) same h)

-- ---- enums
pub enum_value_once : (v : Json) (a b : EnumValue) → IsEnumValue v a → IsEnumValue v b → a ≡ b
enum_value_once v (values.Number y) (values.Number z) g h =
    let same : h.0 ≡ g.0 = (let left = g.1 in let right = h.1 in cc) in
    ap values.Number (one_whole g.0 y z g.2 (subst (λ (n : Number). IsWhole n z) same h.2))
enum_value_once v (values.Word a) (values.Word b) g h = let same : a ≡ b = cc in ap values.Word same
enum_value_once v (values.Number y) (values.Word b) g h = let left = g.1 in absurd cc
enum_value_once v (values.Word a) (values.Number z) g h = let right = h.1 in absurd cc

enum_entry_once : (ms : Members Number) (e f : EnumEntry) → DeclaresEnumEntry ms e → DeclaresEnumEntry ms f → e ≡ f
enum_entry_once ms e f g h =
    let name = text_once (codes "name") ms e.name f.name g.name h.name in
    let common = common_once ms e.common f.common g.common h.common in
    let value = part_once IsEnumValue enum_value_once (value_at (codes "enumValue") ms) e.value f.value g.value h.value in
    λ i. record { name = name i; common = common i; value = value i }

pub enum_entries_once : (vs : Elements Number) (es fs : List EnumEntry) → AllZip IsEnumEntry (list_of vs) es → AllZip IsEnumEntry (list_of vs) fs → es ≡ fs
enum_entries_once vs = all_zip_once IsEnumEntry (object_once DeclaresEnumEntry enum_entry_once) (list_of vs)

value_schema_once : (a b : Bool) → value_schema a ≡ value_schema b → a ≡ b
value_schema_once true true e = refl
value_schema_once false false e = refl
value_schema_once true false e = absurd cc
value_schema_once false true e = absurd cc

-- ---- schemas and payloads
abbrev primitive_of : List ℕ → Primitive
primitive_of name =
    if bytes_eq name (codes "boolean") then primitives.Boolean else
    if bytes_eq name (codes "date") then primitives.Date else
    if bytes_eq name (codes "dateTime") then primitives.DateTime else
    if bytes_eq name (codes "double") then primitives.Double else
    if bytes_eq name (codes "duration") then primitives.Duration else
    if bytes_eq name (codes "float") then primitives.Float else
    if bytes_eq name (codes "integer") then primitives.Integer else
    if bytes_eq name (codes "long") then primitives.Long else
    if bytes_eq name (codes "string") then primitives.Str else
    primitives.Time

primitive_back : (p : Primitive) → primitive_of (primitive_name p) ≡ p
primitive_back primitives.Boolean = refl
primitive_back primitives.Date = refl
primitive_back primitives.DateTime = refl
primitive_back primitives.Double = refl
primitive_back primitives.Duration = refl
primitive_back primitives.Float = refl
primitive_back primitives.Integer = refl
primitive_back primitives.Long = refl
primitive_back primitives.Str = refl
primitive_back primitives.Time = refl

primitive_once : (p q : Primitive) → primitive_name p ≡ primitive_name q → p ≡ q
primitive_once p q e = sym (primitive_back p) ∙ (ap primitive_of e ∙ primitive_back q)

-- Which form a schema has: what its `@type` names, and whether it is an identifier.
pub data Form : Type 0 where
  is : Option Element → Bool → Form

abbrev pub form : SchemaTerm → Form
form (primitive p) = is None false
form (named id) = is None true
form (array_of c s) = is (Some element_kind.Array) false
form (enumeration c of_text es) = is (Some element_kind.Enumeration) false
form (map_of c k e) = is (Some element_kind.Map) false
form (object_of c fs) = is (Some element_kind.Object) false

abbrev pub form_in : Json → Form
form_in (text bytes) = is None (starts_with nat_eq bytes (codes "dtmi:"))
form_in (object ms) = is (type_of position.Schema ms) false
form_in other = is None false

pub primitive_form : (p : Primitive) → starts_with nat_eq (primitive_name p) (codes "dtmi:") ≡ false
primitive_form primitives.Boolean = refl
primitive_form primitives.Date = refl
primitive_form primitives.DateTime = refl
primitive_form primitives.Double = refl
primitive_form primitives.Duration = refl
primitive_form primitives.Float = refl
primitive_form primitives.Integer = refl
primitive_form primitives.Long = refl
primitive_form primitives.Str = refl
primitive_form primitives.Time = refl

object_form : (type : Element) (v : Json) (ms : Members Number) → IsSchemaObject type v ms → form_in v ≡ is (Some type) false
object_form type v ms g = ap form_in g.0 ∙ (λ i. is (g.1 i) false)

pub has_form : (s : SchemaTerm) (v : Json) → IsSchema s v → form_in v ≡ form s
has_form (primitive p) v g = ap form_in g ∙ (λ i. is None (primitive_form p i))
has_form (named id) v g = ap form_in g.0
has_form (array_of c s) v g = object_form element_kind.Array v g.0 g.2
has_form (enumeration c of_text es) v g = object_form element_kind.Enumeration v g.0 g.2
has_form (map_of c k e) v g = object_form element_kind.Map v g.0 g.3
has_form (object_of c fs) v g = object_form element_kind.Object v g.0 g.2

same_form : (s u : SchemaTerm) (v : Json) → IsSchema s v → IsSchema u v → form s ≡ form u
same_form s u v g h = sym (has_form s v g) ∙ has_form u v h

same_part : (key : List ℕ) (ms ns : Members Number) (v w : Json) → ns ≡ ms → value_at key ms ≡ Some v → value_at key ns ≡ Some w → w ≡ v
same_part key ms ns v w same g h = cc

same_list : (key : List ℕ) (ms ns : Members Number) (vs ws : Elements Number) → ns ≡ ms → value_at key ms ≡ Some (array vs)
    → value_at key ns ≡ Some (array ws) → ws ≡ vs
same_list key ms ns vs ws same g h = cc

mutual
  forms_once : (s u : SchemaTerm) → form s ≡ form u → (v : Json) → IsSchema s v → IsSchema u v → s ≡ u
  forms_once (primitive p) (primitive q) _ = λ v g h. let same : primitive_name p ≡ primitive_name q = cc in ap primitive (primitive_once p q same)
  forms_once (primitive p) other e = absurd cc
  forms_once (named i) (named j) _ = λ v g h. ap named (identifier_once v i j g h)
  forms_once (named i) other e = absurd cc
  forms_once (array_of c s) (array_of d u) _ = λ v g h.
      let same = same_members v g.0 h.0 g.2.0 h.2.0 in
      let common = commons_once g.0 h.0 c d same g.3 h.3 in
      let part = same_part (codes "elementSchema") g.0 h.0 g.1 h.1 same g.4 h.4 in
      let other = subst (IsSchema u) part h.5 in
      ap₂ array_of common (forms_once s u (same_form s u g.1 g.5 other) g.1 g.5 other)
  forms_once (array_of c s) other e = absurd cc
  forms_once (enumeration c a es) (enumeration d b fs) _ = λ v g h.
      let same = same_members v g.0 h.0 g.2.0 h.2.0 in
      let common = commons_once g.0 h.0 c d same g.3 h.3 in
      let names : value_schema a ≡ value_schema b = (let left = g.4 in let right = h.4 in cc) in
      let of_text = value_schema_once a b names in
      let list = same_list (codes "enumValues") g.0 h.0 g.1 h.1 same g.5 h.5 in
      let entries = enum_entries_once g.1 es fs g.6 (subst (λ (vs : Elements Number). AllZip IsEnumEntry (list_of vs) fs) list h.6) in
      λ i. enumeration (common i) (of_text i) (entries i)
  forms_once (enumeration c a es) other e = absurd cc
  forms_once (map_of c k e) (map_of d l f) _ = λ v g h.
      let same = same_members v g.0 h.0 g.3.0 h.3.0 in
      let common = commons_once g.0 h.0 c d same g.4 h.4 in
      let key = same_part (codes "mapKey") g.0 h.0 g.1 h.1 same g.5 h.5 in
      let keys = payload_once k l g.1 g.6 (subst (IsPayload l) key h.6) in
      let value = same_part (codes "mapValue") g.0 h.0 g.2 h.2 same g.7 h.7 in
      let values = payload_once e f g.2 g.8 (subst (IsPayload f) value h.8) in
      λ i. map_of (common i) (keys i) (values i)
  forms_once (map_of c k v) other e = absurd cc
  forms_once (object_of c ps) (object_of d qs) _ = λ v g h.
      let same = same_members v g.0 h.0 g.2.0 h.2.0 in
      let common = commons_once g.0 h.0 c d same g.3 h.3 in
      let list = same_list (codes "fields") g.0 h.0 g.1 h.1 same g.4 h.4 in
      ap₂ object_of common (payloads_once ps qs g.1 g.5 (subst (ArePayloads qs) list h.5))
  forms_once (object_of c ps) other e = absurd cc

  payload_once : (p q : PayloadTerm) (v : Json) → IsPayload p v → IsPayload q v → p ≡ q
  payload_once (payload n c s) (payload m d u) v g h =
      let same = same_members v g.0 h.0 g.2 h.2 in
      let name : n ≡ m = (let left = g.3 in let right = h.3 in cc) in
      let common = commons_once g.0 h.0 c d same g.4 h.4 in
      let part = same_part (codes "schema") g.0 h.0 g.1 h.1 same g.5 h.5 in
      let other = subst (IsSchema u) part h.6 in
      let schema = forms_once s u (same_form s u g.1 g.6 other) g.1 g.6 other in
      λ i. payload (name i) (common i) (schema i)

  payloads_once : (ps qs : PayloadTerms) (vs : Elements Number) → ArePayloads ps vs → ArePayloads qs vs → ps ≡ qs
  payloads_once no_payloads no_payloads vs g h = refl
  payloads_once no_payloads (more_payloads q qs) no_elements g h = absurd h
  payloads_once no_payloads (more_payloads q qs) (element v vs) g h = absurd g
  payloads_once (more_payloads p ps) qs no_elements g h = absurd g
  payloads_once (more_payloads p ps) no_payloads (element v vs) g h = absurd h
  payloads_once (more_payloads p ps) (more_payloads q qs) (element v vs) g h = ap₂ more_payloads (payload_once p q v g.0 h.0) (payloads_once ps qs vs g.1 h.1)

pub schema_once : (s u : SchemaTerm) (v : Json) → IsSchema s v → IsSchema u v → s ≡ u
schema_once s u v g h = forms_once s u (same_form s u v g h) v g h

pub schema_at_once : (key : List ℕ) (ms : Members Number) (s u : SchemaTerm) → HasSchema key ms s → HasSchema key ms u → s ≡ u
schema_at_once key ms = part_once (λ v s. IsSchema s v) (λ v s u. schema_once s u v) (value_at key ms)

pub optional_payload_once : (key : List ℕ) (ms : Members Number) (p q : Option PayloadTerm) → HasOptionalPayload key ms p → HasOptionalPayload key ms q → p ≡ q
optional_payload_once key ms = option_once
    (HasOptionalPayload key ms)
    (part_once (λ v p. IsPayload p v) (λ v p q. payload_once p q v) (value_at key ms))
    (λ p g h. let there = h.1 in cc)

-- The canonical text of interfaces: a function of what their records declare, which never sees a source text.
use Rattle.std.specs.Prelude.{ℕ, List, [], ◌∷◌, ◌++◌, map, Bool, true, false, Option, Some, None, codes, pos}
use Rattle.std.specs.Option.{option_map}
use Rattle.dt_base.specs.names.Grammar.{Identifier, dtmi_text}
use Rattle.json_tree.specs.Values.{Json, truth, number, text, array, elements_of}
use Rattle.json_tree.specs.Printing.{printed}
use Rattle.dtdl_terms.specs.Primitives.{primitive_name}
use Rattle.dtdl_terms.specs.Terms.{SchemaTerm, primitive, named, array_of, enumeration, map_of, object_of, PayloadTerm, payload, PayloadTerms, no_payloads, more_payloads, ContentTerm, content, KindTerm, telemetry, property, command, relationship, component, ContentTerms, no_contents, more_contents}
use Rattle.dtdl_terms.specs.TermViews.{schema_term, content_term}
use Rattle.dtdl_terms.specs.Distinct.{payload_name, content_name, schema_id}
use Rattle.dtdl_terms.specs.declared.common.Common.{Common}
use Rattle.dtdl_terms.specs.declared.common.Entry.{Entry}
use Rattle.dtdl_terms.specs.declared.common.Localized.{Localized}
use Rattle.dtdl_terms.specs.declared.enumeration.EnumEntry.{EnumEntry}
use Rattle.dtdl_terms.specs.declared.enumeration.EnumValue.{EnumValue}
use Rattle.dtdl_terms.specs.declared.enumeration.EnumValue.TheVariants as values
use Rattle.dtdl_terms.specs.declared.interface.Interface.{Interface}
use Rattle.canon_text.specs.Objects.{object_of_parts, members_in_order, list_in_order, unless_empty}
use Rattle.canon_text.specs.Numbers.{whole}

-- ---- what every element may have
abbrev pub id_value : Identifier → Json
id_value id = text (dtmi_text id)

abbrev pub entry_pair : Entry → List ℕ × Json
entry_pair e = (e.language, text e.text)

-- A localized text: its texts by language.
abbrev pub localized_value : Localized → Option Json
localized_value l = unless_empty members_in_order (map entry_pair l.entries)

-- The members that every element may have, beside its `@type`.
abbrev pub element_parts : Option Json → Common → List (List ℕ × Option Json)
element_parts type c =
    (codes "@id", option_map id_value c.id)
    ∷ (codes "@type", type)
    ∷ (codes "comment", option_map text c.comment)
    ∷ (codes "description", localized_value c.description)
    ∷ (codes "displayName", localized_value c.display_name)
    ∷ []

-- ---- enums
abbrev pub enum_value : EnumValue → Json
enum_value (values.Number z) = number (whole z)
enum_value (values.Word bytes) = text bytes

abbrev pub enum_entry_value : EnumEntry → Json
enum_entry_value e = object_of_parts (element_parts None e.common
    ++ (codes "enumValue", Some (enum_value e.value)) ∷ (codes "name", Some (text e.name)) ∷ [])

abbrev pub enum_entry_pair : EnumEntry → List ℕ × Json
enum_entry_pair e = (e.name, enum_entry_value e)

-- `valueSchema` is `string` or `integer`.
abbrev pub value_schema_json : Bool → Json
value_schema_json true = text (codes "string")
value_schema_json false = text (codes "integer")

-- ---- schemas and payloads
-- A complex schema: its type, what every element may have, and what it has of its own.
abbrev pub schema_object : List ℕ → Common → List (List ℕ × Option Json) → Json
schema_object type c own = object_of_parts (element_parts (Some (text type)) c ++ own)

abbrev mutual
  -- Primitives and references are texts.
  pub schema_value : SchemaTerm → Json
  schema_value (primitive p) = text (primitive_name p)
  schema_value (named id) = id_value id
  schema_value (array_of c s) = schema_object (codes "Array") c ((codes "elementSchema", Some (schema_value s)) ∷ [])
  schema_value (enumeration c of_text es) = schema_object (codes "Enum") c ((codes "enumValues", Some (list_in_order (map enum_entry_pair es)))
      ∷ (codes "valueSchema", Some (value_schema_json of_text)) ∷ [])
  schema_value (map_of c key value) = schema_object (codes "Map") c ((codes "mapKey", Some (payload_value key)) ∷ (codes "mapValue", Some (payload_value value)) ∷ [])
  schema_value (object_of c fields) = schema_object (codes "Object") c ((codes "fields", Some (list_in_order (payload_pairs fields))) ∷ [])

  -- The `@type` of a payload declares nothing and is left out.
  pub payload_value : PayloadTerm → Json
  payload_value (payload n c s) = object_of_parts (element_parts None c ++ (codes "name", Some (text n)) ∷ (codes "schema", Some (schema_value s)) ∷ [])

  pub payload_pairs : PayloadTerms → List (List ℕ × Json)
  payload_pairs no_payloads = []
  payload_pairs (more_payloads p ps) = (payload_name p, payload_value p) ∷ payload_pairs ps

-- A named schema stands by its identifier; that one without an identifier stands first is of no weight.
abbrev pub id_text : Option Identifier → List ℕ
id_text None = []
id_text (Some id) = dtmi_text id

abbrev pub schema_pair : SchemaTerm → List ℕ × Json
schema_pair s = (id_text (schema_id s), schema_value s)

-- ---- contents
-- `@type` is a text, or a list of the type and the semantic type.
abbrev pub typed : List ℕ → Option (List ℕ) → Json
typed type None = text type
typed type (Some semantic) = array (elements_of (text type ∷ text semantic ∷ []))

abbrev pub kind_type : KindTerm → Json
kind_type (telemetry s semantic unit) = typed (codes "Telemetry") semantic
kind_type (property s semantic unit writable) = typed (codes "Property") semantic
kind_type (command request response) = text (codes "Command")
kind_type (relationship target properties most writable) = text (codes "Relationship")
kind_type (component of) = text (codes "Component")

-- `writable` is printed only where it is true.
abbrev pub writable_value : Bool → Option Json
writable_value true = Some (truth true)
writable_value false = None

abbrev pub most_value : ℕ → Json
most_value n = number (whole (pos n))

abbrev mutual
  -- What the content of this name has of its own, by its kind.
  pub kind_parts : List ℕ → KindTerm → List (List ℕ × Option Json)
  kind_parts n (telemetry s semantic unit) =
      (codes "name", Some (text n))
      ∷ (codes "schema", Some (schema_value s))
      ∷ (codes "unit", option_map text unit)
      ∷ []
  kind_parts n (property s semantic unit writable) =
      (codes "name", Some (text n))
      ∷ (codes "schema", Some (schema_value s))
      ∷ (codes "unit", option_map text unit)
      ∷ (codes "writable", writable_value writable)
      ∷ []
  kind_parts n (command request response) =
      (codes "name", Some (text n))
      ∷ (codes "request", option_map payload_value request)
      ∷ (codes "response", option_map payload_value response)
      ∷ []
  kind_parts n (relationship target properties most writable) =
      (codes "maxMultiplicity", option_map most_value most)
      ∷ (codes "name", Some (text n))
      ∷ (codes "properties", unless_empty list_in_order (content_pairs properties))
      ∷ (codes "target", option_map id_value target)
      ∷ (codes "writable", writable_value writable)
      ∷ []
  kind_parts n (component of) =
      (codes "name", Some (text n))
      ∷ (codes "schema", Some (id_value of))
      ∷ []

  pub content_value : ContentTerm → Json
  content_value (content n c k) = object_of_parts (element_parts (Some (kind_type k)) c ++ kind_parts n k)

  pub content_pairs : ContentTerms → List (List ℕ × Json)
  content_pairs no_contents = []
  content_pairs (more_contents c cs) = (content_name c, content_value c) ∷ content_pairs cs

abbrev pub content_pair : ContentTerm → List ℕ × Json
content_pair c = (content_name c, content_value c)

-- ---- interfaces
abbrev pub parent_pair : Identifier → List ℕ × Json
parent_pair id = (dtmi_text id, id_value id)

-- The canonical tree of an interface. The keys of each object stand in the order of their bytes.
abbrev pub interface_value : Interface → Json
interface_value i = object_of_parts (
    (codes "@context", Some (text (codes "dtmi:dtdl:context;2")))
    ∷ (codes "@id", Some (id_value i.id))
    ∷ (codes "@type", Some (text (codes "Interface")))
    ∷ (codes "comment", option_map text i.comment)
    ∷ (codes "contents", unless_empty list_in_order (map (λ c. content_pair (content_term c)) i.contents))
    ∷ (codes "description", localized_value i.description)
    ∷ (codes "displayName", localized_value i.display_name)
    ∷ (codes "extends", unless_empty list_in_order (map parent_pair i.parents))
    ∷ (codes "schemas", unless_empty list_in_order (map (λ s. schema_pair (schema_term s)) i.schemas))
    ∷ [])

-- The canonical text of an interface.
abbrev pub interface_text : Interface → List ℕ
interface_text i = printed (interface_value i)

abbrev pub interface_pair : Interface → List ℕ × Json
interface_pair i = (dtmi_text i.id, interface_value i)

-- The canonical tree of a set of interfaces: a list of theirs, in the order of their identifiers.
abbrev pub set_value : List Interface → Json
set_value is = list_in_order (map interface_pair is)

-- The canonical text of a set of interfaces: that of its tree, and a newline.
abbrev pub set_text : List Interface → List ℕ
set_text is = printed (set_value is) ++ 10 ∷ []

-- Look-up by names: each name leads to the first item that has it.
use Rattle.std.specs.Prelude.{ℕ, List, [], ◌∷◌, Option, Some, None, Bool, true, false, bytes_eq}
use Rattle.std.specs.List.{find}
use Rattle.std.specs.Option.{option_map}
use Rattle.dt_base.specs.names.Grammar.{Identifier, dtmi_text}
use Rattle.dtdl_terms.specs.Terms.{SchemaTerm, PayloadTerm, PayloadTerms, no_payloads, more_payloads, KindTerm, relationship, ContentTerm, ContentTerms, no_contents, more_contents}
use Rattle.dtdl_terms.specs.Distinct.{schema_id, payload_name, content_name}
use Rattle.dtdl_terms.specs.declared.resolved.ResolvedContent.{ResolvedContent}
use Rattle.dtdl_terms.specs.declared.resolved.NamedIn.{NamedIn}
use Rattle.dtdl_terms.specs.declared.resolved.PartOf.{PartOf}

-- The name that there may be is this one.
abbrev pub is_called : List ℕ → Option (List ℕ) → Bool
is_called q None = false
is_called q (Some name) = bytes_eq name q

abbrev pub schema_called : List ℕ → List SchemaTerm → Option SchemaTerm
schema_called q ss = find (λ (s : SchemaTerm). is_called q (option_map dtmi_text (schema_id s))) ss

-- Fields as a list.
abbrev pub fields_in : PayloadTerms → List PayloadTerm
fields_in no_payloads = []
fields_in (more_payloads p ps) = p ∷ fields_in ps

abbrev pub field_called : List ℕ → PayloadTerms → Option PayloadTerm
field_called q fs = find (λ (p : PayloadTerm). is_called q (Some (payload_name p))) (fields_in fs)

abbrev pub content_called : List ℕ → List ResolvedContent → Option ResolvedContent
content_called q cs = find (λ (c : ResolvedContent). is_called q (Some c.content.name)) cs

-- Whether a content is a relationship, and the properties that it declares.
abbrev pub is_link : KindTerm → Bool
is_link (relationship target properties most writable) = true
is_link other = false

abbrev pub properties_of : KindTerm → ContentTerms
properties_of (relationship target properties most writable) = properties
properties_of other = no_contents

abbrev pub properties_in : ContentTerms → List ContentTerm
properties_in no_contents = []
properties_in (more_contents c cs) = c ∷ properties_in cs

abbrev pub property_called : List ℕ → ContentTerms → Option ContentTerm
property_called q cs = find (λ (c : ContentTerm). is_called q (Some (content_name c))) (properties_in cs)

abbrev pub named_of : Identifier → List NamedIn → Option NamedIn
named_of id ns = find (λ (n : NamedIn). is_called (dtmi_text id) (Some (dtmi_text n.of))) ns

abbrev pub part_of : Identifier → List PartOf → Option PartOf
part_of id ps = find (λ (p : PartOf). is_called (dtmi_text id) (Some (dtmi_text p.of))) ps

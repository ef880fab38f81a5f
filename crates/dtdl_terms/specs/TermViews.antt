-- The terms that schemas, payloads and contents stand for.
use Rattle.std.specs.Prelude.{List, [], ◌∷◌, map}
use Rattle.std.specs.Option.{option_map}
use Rattle.dtdl_terms.specs.Terms.{SchemaTerm, primitive, named, array_of, enumeration, map_of, object_of, PayloadTerm, payload, PayloadTerms, no_payloads, more_payloads, ContentTerm, content, KindTerm, telemetry, property, command, relationship, component, ContentTerms, no_contents, more_contents}
use Rattle.dtdl_terms.specs.declared.schema.Schema.{Schema, fold-Schema}
use Rattle.dtdl_terms.specs.declared.schema.Schema.TheOpen.{Schema-F}
use Rattle.dtdl_terms.specs.declared.schema.Payload.{Payload, Payload-F}
use Rattle.dtdl_terms.specs.declared.content.ContentKind.{ContentKind, fold-ContentKind}
use Rattle.dtdl_terms.specs.declared.content.ContentKind.TheOpen.{ContentKind-F}
use Rattle.dtdl_terms.specs.declared.content.Content.{Content, Content-F}

abbrev pub payloads_of : List PayloadTerm → PayloadTerms
payloads_of [] = no_payloads
payloads_of (p ∷ ps) = more_payloads p (payloads_of ps)

abbrev pub content_terms_of : List ContentTerm → ContentTerms
content_terms_of [] = no_contents
content_terms_of (c ∷ cs) = more_contents c (content_terms_of cs)

-- one level of a schema, with each schema and payload inside already seen
abbrev pub schema_step : Schema-F SchemaTerm PayloadTerm → SchemaTerm
schema_step (Schema-F.Primitive p) = primitive p
schema_step (Schema-F.Named id) = named id
schema_step (Schema-F.Array common element) = array_of common element
schema_step (Schema-F.Enumeration common of_text values) = enumeration common of_text values
schema_step (Schema-F.Map common key value) = map_of common key value
schema_step (Schema-F.Object common fields) = object_of common (payloads_of fields)

abbrev pub payload_step : Payload-F SchemaTerm PayloadTerm → PayloadTerm
payload_step p = payload p.name p.common p.schema

abbrev pub schema_term : Schema → SchemaTerm
schema_term = fold-Schema SchemaTerm PayloadTerm schema_step payload_step

-- a payload is its name, what every element has, and its schema
abbrev pub payload_term : Payload → PayloadTerm
payload_term p = payload p.name p.common (schema_term p.schema)

abbrev pub payloads_term : List Payload → PayloadTerms
payloads_term ps = payloads_of (map payload_term ps)

-- one level of a content, with each content inside already seen
abbrev pub kind_step : ContentKind-F KindTerm ContentTerm → KindTerm
kind_step (ContentKind-F.Telemetry schema semantic unit) = telemetry (schema_term schema) semantic unit
kind_step (ContentKind-F.Property schema semantic unit writable) = property (schema_term schema) semantic unit writable
kind_step (ContentKind-F.Command request response) = command (option_map payload_term request) (option_map payload_term response)
kind_step (ContentKind-F.Relationship target properties most writable) = relationship target (content_terms_of properties) most writable
kind_step (ContentKind-F.Component of) = component of

abbrev pub content_step : Content-F KindTerm ContentTerm → ContentTerm
content_step c = content c.name c.common c.kind

abbrev pub kind_term : ContentKind → KindTerm
kind_term = fold-ContentKind KindTerm ContentTerm kind_step content_step

-- a content is its name, what every element has, and its kind
abbrev pub content_term : Content → ContentTerm
content_term c = content c.name c.common (kind_term c.kind)

abbrev pub contents_term : List Content → ContentTerms
contents_term cs = content_terms_of (map content_term cs)

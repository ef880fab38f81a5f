-- The terms of schemas, payloads and contents, level by level.
use Rattle.std.proofs.Common.{◌≡◌, ℕ, List, [], ◌∷◌, ◌++◌, Bool, Option, refl, ap, rules}
use Rattle.std.specs.Option.{option_map}
use Rattle.dt_base.specs.names.Grammar.{Identifier}
use Rattle.dtdl_terms.specs.Terms.{primitive, named, array_of, enumeration, map_of, object_of, PayloadTerm, payload, PayloadTerms, no_payloads, more_payloads, ContentTerm, content, telemetry, property, command, relationship, component, ContentTerms, no_contents, more_contents}
use Rattle.dtdl_terms.specs.TermViews.{schema_term, payload_term, payloads_term, kind_term, content_term, contents_term}
use Rattle.dtdl_terms.specs.declared.common.Common.{Common}
use Rattle.dtdl_terms.specs.declared.primitive.Primitive.{Primitive}
use Rattle.dtdl_terms.specs.declared.enumeration.EnumEntry.{EnumEntry}
use Rattle.dtdl_terms.specs.declared.schema.Schema.{Schema}
use Rattle.dtdl_terms.specs.declared.schema.Schema as schemas
use Rattle.dtdl_terms.specs.declared.schema.Schema.{the_lemmas as schema_lemmas}
use Rattle.dtdl_terms.specs.declared.schema.Payload.{Payload}
use Rattle.dtdl_terms.specs.declared.content.ContentKind.{ContentKind}
use Rattle.dtdl_terms.specs.declared.content.ContentKind as kinds
use Rattle.dtdl_terms.specs.declared.content.ContentKind.{the_lemmas as kind_lemmas}
use Rattle.dtdl_terms.specs.declared.content.Content.{Content}

-- ---- schemas
pub term-Primitive : (p : Primitive) → schema_term (schemas.Primitive p) ≡ primitive p
term-Primitive p = search (rules, schema_lemmas)

pub term-Named : (id : Identifier) → schema_term (schemas.Named id) ≡ named id
term-Named id = search (rules, schema_lemmas)

pub term-Array : (c : Common) (element : Schema) → schema_term (schemas.Array c element) ≡ array_of c (schema_term element)
term-Array c element = search (rules, schema_lemmas)

pub term-Enumeration : (c : Common) (of_text : Bool) (values : List EnumEntry) → schema_term (schemas.Enumeration c of_text values) ≡ enumeration c of_text values
term-Enumeration c of_text values = search (rules, schema_lemmas)

pub term-Map : (c : Common) (key value : Payload) → schema_term (schemas.Map c key value) ≡ map_of c (payload_term key) (payload_term value)
term-Map c key value = search (rules, schema_lemmas)

pub term-Object : (c : Common) (fields : List Payload) → schema_term (schemas.Object c fields) ≡ object_of c (payloads_term fields)
term-Object c fields = search (rules, schema_lemmas)

-- ---- payloads
pub term-Payload : (name : List ℕ) (c : Common) (s : Schema)
    → payload_term (record { name = name; common = c; schema = s }) ≡ payload name c (schema_term s)
term-Payload name c s = refl

pub terms-no_payloads : payloads_term [] ≡ no_payloads
terms-no_payloads = refl

pub terms-more_payloads : (p : Payload) (ps : List Payload) → payloads_term (p ∷ ps) ≡ more_payloads (payload_term p) (payloads_term ps)
terms-more_payloads p ps = refl

-- one payload more, at the end
abbrev pub push_payload : PayloadTerms → PayloadTerm → PayloadTerms
push_payload no_payloads last = more_payloads last no_payloads
push_payload (more_payloads p ps) last = more_payloads p (push_payload ps last)

pub terms-push_payload : (ps : List Payload) (p : Payload) → payloads_term (ps ++ p ∷ []) ≡ push_payload (payloads_term ps) (payload_term p)
terms-push_payload [] p = refl
terms-push_payload (q ∷ ps) p = ap (more_payloads (payload_term q)) (terms-push_payload ps p)

-- ---- contents
pub term-Telemetry : (s : Schema) (semantic unit : Option (List ℕ)) → kind_term (kinds.Telemetry s semantic unit) ≡ telemetry (schema_term s) semantic unit
term-Telemetry s semantic unit = search (rules, kind_lemmas)

pub term-Property : (s : Schema) (semantic unit : Option (List ℕ)) (writable : Bool)
    → kind_term (kinds.Property s semantic unit writable) ≡ property (schema_term s) semantic unit writable
term-Property s semantic unit writable = search (rules, kind_lemmas)

pub term-Command : (request response : Option Payload)
    → kind_term (kinds.Command request response) ≡ command (option_map payload_term request) (option_map payload_term response)
term-Command request response = search (rules, kind_lemmas)

pub term-Relationship : (target : Option Identifier) (properties : List Content) (most : Option ℕ) (writable : Bool)
    → kind_term (kinds.Relationship target properties most writable) ≡ relationship target (contents_term properties) most writable
term-Relationship target properties most writable = search (rules, kind_lemmas)

pub term-Component : (id : Identifier) → kind_term (kinds.Component id) ≡ component id
term-Component id = search (rules, kind_lemmas)

pub term-Content : (name : List ℕ) (c : Common) (kind : ContentKind)
    → content_term (record { name = name; common = c; kind = kind }) ≡ content name c (kind_term kind)
term-Content name c kind = refl

pub terms-no_contents : contents_term [] ≡ no_contents
terms-no_contents = refl

pub terms-more_contents : (c : Content) (cs : List Content) → contents_term (c ∷ cs) ≡ more_contents (content_term c) (contents_term cs)
terms-more_contents c cs = refl

-- one content more, at the end
abbrev pub push_content : ContentTerms → ContentTerm → ContentTerms
push_content no_contents last = more_contents last no_contents
push_content (more_contents c cs) last = more_contents c (push_content cs last)

pub terms-push_content : (cs : List Content) (c : Content) → contents_term (cs ++ c ∷ []) ≡ push_content (contents_term cs) (content_term c)
terms-push_content [] c = refl
terms-push_content (d ∷ cs) c = ap (more_contents (content_term d)) (terms-push_content cs c)

pub ruleset terms = (term-Primitive, term-Named, term-Array, term-Enumeration, term-Map, term-Object, term-Payload, terms-more_payloads, terms-push_payload, term-Telemetry, term-Property, term-Command, term-Relationship, term-Component, term-Content, terms-more_contents, terms-push_content)

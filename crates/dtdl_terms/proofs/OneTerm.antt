-- A term is that of one schema, payload or content.
use Rattle.std.proofs.Common.{◌≡◌, List, [], ◌∷◌, Option, Some, None, refl, sym, ap, ap₂, ◌∙◌}
use Rattle.std.specs.Option.{option_map}
use Rattle.dtdl_terms.specs.Terms.{SchemaTerm, primitive, named, array_of, enumeration, map_of, object_of, PayloadTerm, payload, PayloadTerms, no_payloads, more_payloads, ContentTerm, content, KindTerm, telemetry, property, command, relationship, component, ContentTerms, no_contents, more_contents}
use Rattle.dtdl_terms.specs.TermViews.{schema_term, payload_term, payloads_term, kind_term, content_term, contents_term}
use Rattle.dtdl_terms.specs.declared.schema.Schema.{Schema, out-Schema, roll-Schema, roll-out-Schema}
use Rattle.dtdl_terms.specs.declared.schema.Schema as schemas
use Rattle.dtdl_terms.specs.declared.schema.Schema.TheOpen.{Schema-F}
use Rattle.dtdl_terms.specs.declared.schema.Schema.TheVariants.{rolls-Primitive, rolls-Named, rolls-Array, rolls-Enumeration, rolls-Map, rolls-Object}
use Rattle.dtdl_terms.specs.declared.schema.Payload.{Payload}
use Rattle.dtdl_terms.specs.declared.content.ContentKind.{ContentKind, out-ContentKind, roll-ContentKind, roll-out-ContentKind}
use Rattle.dtdl_terms.specs.declared.content.ContentKind as kinds
use Rattle.dtdl_terms.specs.declared.content.ContentKind.TheOpen.{ContentKind-F}
use Rattle.dtdl_terms.specs.declared.content.ContentKind.TheVariants.{rolls-Telemetry, rolls-Property, rolls-Command, rolls-Relationship, rolls-Component}
use Rattle.dtdl_terms.specs.declared.content.Content.{Content}
use Rattle.dtdl_terms.proofs.TermViews.{term-Primitive, term-Named, term-Array, term-Enumeration, term-Map, term-Object, term-Telemetry, term-Property, term-Command, term-Relationship, term-Component}

-- ---- schemas and payloads
-- The value of a term.
abbrev mutual
  schema_of : SchemaTerm → Schema
  schema_of (primitive p) = schemas.Primitive p
  schema_of (named id) = schemas.Named id
  schema_of (array_of c s) = schemas.Array c (schema_of s)
  schema_of (enumeration c of_text es) = schemas.Enumeration c of_text es
  schema_of (map_of c k e) = schemas.Map c (payload_of k) (payload_of e)
  schema_of (object_of c fs) = schemas.Object c (payloads_of fs)

  payload_of : PayloadTerm → Payload
  payload_of (payload n c s) = record { name = n; common = c; schema = schema_of s }

  payloads_of : PayloadTerms → List Payload
  payloads_of no_payloads = []
  payloads_of (more_payloads p ps) = payload_of p ∷ payloads_of ps

-- a schema by its variant
abbrev variant : Schema-F Schema Payload → Schema
variant (Schema-F.Primitive p) = schemas.Primitive p
variant (Schema-F.Named id) = schemas.Named id
variant (Schema-F.Array c s) = schemas.Array c s
variant (Schema-F.Enumeration c of_text es) = schemas.Enumeration c of_text es
variant (Schema-F.Map c k e) = schemas.Map c k e
variant (Schema-F.Object c fs) = schemas.Object c fs

rolled : (x : Schema-F Schema Payload) → roll-Schema x ≡ variant x
rolled (Schema-F.Primitive p) = rolls-Primitive p
rolled (Schema-F.Named id) = rolls-Named id
rolled (Schema-F.Array c s) = rolls-Array c s
rolled (Schema-F.Enumeration c of_text es) = rolls-Enumeration c of_text es
rolled (Schema-F.Map c k e) = rolls-Map c k e
rolled (Schema-F.Object c fs) = rolls-Object c fs

-- the term of a variant
abbrev level : Schema-F Schema Payload → SchemaTerm
level (Schema-F.Primitive p) = primitive p
level (Schema-F.Named id) = named id
level (Schema-F.Array c s) = array_of c (schema_term s)
level (Schema-F.Enumeration c of_text es) = enumeration c of_text es
level (Schema-F.Map c k e) = map_of c (payload_term k) (payload_term e)
level (Schema-F.Object c fs) = object_of c (payloads_term fs)

levelled : (x : Schema-F Schema Payload) → schema_term (variant x) ≡ level x
levelled (Schema-F.Primitive p) = term-Primitive p
levelled (Schema-F.Named id) = term-Named id
levelled (Schema-F.Array c s) = term-Array c s
levelled (Schema-F.Enumeration c of_text es) = term-Enumeration c of_text es
levelled (Schema-F.Map c k e) = term-Map c k e
levelled (Schema-F.Object c fs) = term-Object c fs

whole : (s : Schema) → variant (out-Schema s) ≡ s
whole s = sym (rolled (out-Schema s)) ∙ roll-out-Schema s

level_out : (s : Schema) (t : SchemaTerm) → schema_term s ≡ t → level (out-Schema s) ≡ t
level_out s t e = sym (levelled (out-Schema s)) ∙ (ap schema_term (whole s) ∙ e)

mutual
  schema_back : (t : SchemaTerm) (x : Schema-F Schema Payload) → level x ≡ t → schema_of t ≡ variant x
  schema_back (primitive p) (Schema-F.Primitive q) e = let same : q ≡ p = cc in ap schemas.Primitive (sym same)
  schema_back (primitive p) other e = absurd cc
  schema_back (named i) (Schema-F.Named j) e = let same : j ≡ i = cc in ap schemas.Named (sym same)
  schema_back (named i) other e = absurd cc
  schema_back (array_of c t) (Schema-F.Array d s) e =
      let common : d ≡ c = cc in
      let part : schema_term s ≡ t = cc in
      ap₂ schemas.Array (sym common) (schema_back t (out-Schema s) (level_out s t part) ∙ whole s)
  schema_back (array_of c t) other e = absurd cc
  schema_back (enumeration c b es) (Schema-F.Enumeration d a fs) e =
      let common : d ≡ c = cc in
      let text : a ≡ b = cc in
      let entries : fs ≡ es = cc in cc
  schema_back (enumeration c b es) other e = absurd cc
  schema_back (map_of c k v) (Schema-F.Map d l w) e =
      let common : d ≡ c = cc in
      let key : payload_term l ≡ k = cc in
      let value : payload_term w ≡ v = cc in
      let keys = payload_back k l key in
      let values = payload_back v w value in
      ap (λ z. schemas.Map z (payload_of k) (payload_of v)) (sym common) ∙ ap₂ (schemas.Map d) keys values
  schema_back (map_of c k v) other e = absurd cc
  schema_back (object_of c t) (Schema-F.Object d ps) e =
      let common : d ≡ c = cc in
      let part : payloads_term ps ≡ t = cc in
      ap₂ schemas.Object (sym common) (payloads_back t ps part)
  schema_back (object_of c t) other e = absurd cc

  payload_back : (t : PayloadTerm) (p : Payload) → payload_term p ≡ t → payload_of t ≡ p
  payload_back (payload n c t) p e =
      let name : p.name ≡ n = cc in
      let common : p.common ≡ c = cc in
      let part : schema_term p.schema ≡ t = cc in
      let schema : schema_of t ≡ p.schema = schema_back t (out-Schema p.schema) (level_out p.schema t part) ∙ whole p.schema in
      λ i. record { name = sym name i; common = sym common i; schema = schema i }

  payloads_back : (t : PayloadTerms) (ps : List Payload) → payloads_term ps ≡ t → payloads_of t ≡ ps
  payloads_back no_payloads [] e = refl
  payloads_back no_payloads (p ∷ ps) e = absurd cc
  payloads_back (more_payloads t ts) [] e = absurd cc
  payloads_back (more_payloads t ts) (p ∷ ps) e =
      let first : payload_term p ≡ t = cc in
      let rest : payloads_term ps ≡ ts = cc in
      ap₂ (λ (x : Payload) (xs : List Payload). x ∷ xs) (payload_back t p first) (payloads_back ts ps rest)

whole_back : (t : SchemaTerm) (s : Schema) → schema_term s ≡ t → schema_of t ≡ s
whole_back t s e = schema_back t (out-Schema s) (level_out s t e) ∙ whole s

pub one_schema : (s u : Schema) → schema_term s ≡ schema_term u → s ≡ u
one_schema s u e = sym (whole_back (schema_term s) s refl) ∙ whole_back (schema_term s) u (sym e)

-- ---- contents
-- a content's kind by its variant
abbrev kind : ContentKind-F ContentKind Content → ContentKind
kind (ContentKind-F.Telemetry s semantic unit) = kinds.Telemetry s semantic unit
kind (ContentKind-F.Property s semantic unit writable) = kinds.Property s semantic unit writable
kind (ContentKind-F.Command request response) = kinds.Command request response
kind (ContentKind-F.Relationship target properties most writable) = kinds.Relationship target properties most writable
kind (ContentKind-F.Component id) = kinds.Component id

kind_rolled : (x : ContentKind-F ContentKind Content) → roll-ContentKind x ≡ kind x
kind_rolled (ContentKind-F.Telemetry s semantic unit) = rolls-Telemetry s semantic unit
kind_rolled (ContentKind-F.Property s semantic unit writable) = rolls-Property s semantic unit writable
kind_rolled (ContentKind-F.Command request response) = rolls-Command request response
kind_rolled (ContentKind-F.Relationship target properties most writable) = rolls-Relationship target properties most writable
kind_rolled (ContentKind-F.Component id) = rolls-Component id

abbrev kind_level : ContentKind-F ContentKind Content → KindTerm
kind_level (ContentKind-F.Telemetry s semantic unit) = telemetry (schema_term s) semantic unit
kind_level (ContentKind-F.Property s semantic unit writable) = property (schema_term s) semantic unit writable
kind_level (ContentKind-F.Command request response) = command (option_map payload_term request) (option_map payload_term response)
kind_level (ContentKind-F.Relationship target properties most writable) = relationship target (contents_term properties) most writable
kind_level (ContentKind-F.Component id) = component id

kind_levelled : (x : ContentKind-F ContentKind Content) → kind_term (kind x) ≡ kind_level x
kind_levelled (ContentKind-F.Telemetry s semantic unit) = term-Telemetry s semantic unit
kind_levelled (ContentKind-F.Property s semantic unit writable) = term-Property s semantic unit writable
kind_levelled (ContentKind-F.Command request response) = term-Command request response
kind_levelled (ContentKind-F.Relationship target properties most writable) = term-Relationship target properties most writable
kind_levelled (ContentKind-F.Component id) = term-Component id

kind_whole : (k : ContentKind) → kind (out-ContentKind k) ≡ k
kind_whole k = sym (kind_rolled (out-ContentKind k)) ∙ roll-out-ContentKind k

kind_out : (k : ContentKind) (t : KindTerm) → kind_term k ≡ t → kind_level (out-ContentKind k) ≡ t
kind_out k t e = sym (kind_levelled (out-ContentKind k)) ∙ (ap kind_term (kind_whole k) ∙ e)

-- The value of a term.
abbrev mutual
  kind_of : KindTerm → ContentKind
  kind_of (telemetry s semantic unit) = kinds.Telemetry (schema_of s) semantic unit
  kind_of (property s semantic unit writable) = kinds.Property (schema_of s) semantic unit writable
  kind_of (command request response) = kinds.Command (option_map payload_of request) (option_map payload_of response)
  kind_of (relationship target properties most writable) = kinds.Relationship target (contents_of properties) most writable
  kind_of (component id) = kinds.Component id

  content_of : ContentTerm → Content
  content_of (content n c k) = record { name = n; common = c; kind = kind_of k }

  contents_of : ContentTerms → List Content
  contents_of no_contents = []
  contents_of (more_contents p ps) = content_of p ∷ contents_of ps

option_back : (t : Option PayloadTerm) (p : Option Payload) → option_map payload_term p ≡ t → option_map payload_of t ≡ p
option_back None None e = refl
option_back None (Some p) e = absurd cc
option_back (Some t) None e = absurd cc
option_back (Some t) (Some p) e = let inner : payload_term p ≡ t = cc in ap (λ (x : Payload). Some x) (payload_back t p inner)

mutual
  kind_back : (t : KindTerm) (x : ContentKind-F ContentKind Content) → kind_level x ≡ t → kind_of t ≡ kind x
  kind_back (telemetry t a b) (ContentKind-F.Telemetry s semantic unit) e =
      let part : schema_term s ≡ t = cc in
      let schema = whole_back t s part in
      let first : semantic ≡ a = cc in
      let second : unit ≡ b = cc in
      λ i. kinds.Telemetry (schema i) (sym first i) (sym second i)
  kind_back (telemetry t a b) other e = absurd cc
  kind_back (property t a b w) (ContentKind-F.Property s semantic unit writable) e =
      let part : schema_term s ≡ t = cc in
      let schema = whole_back t s part in
      let first : semantic ≡ a = cc in
      let second : unit ≡ b = cc in
      let third : writable ≡ w = cc in
      λ i. kinds.Property (schema i) (sym first i) (sym second i) (sym third i)
  kind_back (property t a b w) other e = absurd cc
  kind_back (command a b) (ContentKind-F.Command request response) e =
      let asked : option_map payload_term request ≡ a = cc in
      let told : option_map payload_term response ≡ b = cc in
      ap₂ kinds.Command (option_back a request asked) (option_back b response told)
  kind_back (command a b) other e = absurd cc
  kind_back (relationship a b m w) (ContentKind-F.Relationship target properties most writable) e =
      let first : target ≡ a = cc in
      let entries : contents_term properties ≡ b = cc in
      let second = contents_back b properties entries in
      let third : most ≡ m = cc in
      let fourth : writable ≡ w = cc in
      λ i. kinds.Relationship (sym first i) (second i) (sym third i) (sym fourth i)
  kind_back (relationship a b m w) other e = absurd cc
  kind_back (component a) (ContentKind-F.Component id) e = let same : id ≡ a = cc in ap kinds.Component (sym same)
  kind_back (component a) other e = absurd cc

  content_back : (t : ContentTerm) (c : Content) → content_term c ≡ t → content_of t ≡ c
  content_back (content n d k) c e =
      let name : c.name ≡ n = cc in
      let common : c.common ≡ d = cc in
      let part : kind_term c.kind ≡ k = cc in
      let inner : kind_of k ≡ c.kind = kind_back k (out-ContentKind c.kind) (kind_out c.kind k part) ∙ kind_whole c.kind in
      λ i. record { name = sym name i; common = sym common i; kind = inner i }

  contents_back : (t : ContentTerms) (cs : List Content) → contents_term cs ≡ t → contents_of t ≡ cs
  contents_back no_contents [] e = refl
  contents_back no_contents (c ∷ cs) e = absurd cc
  contents_back (more_contents t ts) [] e = absurd cc
  contents_back (more_contents t ts) (c ∷ cs) e =
      let first : content_term c ≡ t = cc in
      let rest : contents_term cs ≡ ts = cc in
      ap₂ (λ (x : Content) (xs : List Content). x ∷ xs) (content_back t c first) (contents_back ts cs rest)

pub one_content : (c d : Content) → content_term c ≡ content_term d → c ≡ d
one_content c d e = sym (content_back (content_term c) c refl) ∙ content_back (content_term c) d (sym e)

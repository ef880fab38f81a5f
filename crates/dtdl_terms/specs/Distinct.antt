-- When an interface has a declaration: the names, the languages and the identifiers by which each of its lists is a
-- finite map, or a set, are distinct.
use Rattle.std.specs.Prelude.{◌≢◌, ℕ, List, [], ◌∷◌, map, Option, Some, None, IsSome}
use Rattle.std.specs.List.{AllByRecursion}
use Rattle.dt_base.specs.names.Grammar.{Identifier}
use Rattle.dtdl_terms.specs.Terms.{SchemaTerm, primitive, named, array_of, enumeration, map_of, object_of, PayloadTerm, payload, PayloadTerms, no_payloads, more_payloads, ContentTerm, content, KindTerm, telemetry, property, command, relationship, component, ContentTerms, no_contents, more_contents}
use Rattle.dtdl_terms.specs.TermViews.{schema_term, content_term}
use Rattle.dtdl_terms.specs.declared.common.Common.{Common}
use Rattle.dtdl_terms.specs.declared.common.Localized.{Localized}
use Rattle.dtdl_terms.specs.declared.enumeration.EnumEntry.{EnumEntry}
use Rattle.dtdl_terms.specs.declared.interface.Interface.{Interface}

-- No element equals a later one.
abbrev pub AreDistinct : {A : Type 0} → List A → Type 0
AreDistinct [] = Unit {0}
AreDistinct (x ∷ xs) = AllByRecursion (λ y. x ≢ y) xs × AreDistinct xs

-- A localized text has at most one text in a language.
abbrev pub HasDistinctLanguages : Localized → Type 0
HasDistinctLanguages l = AreDistinct (map (λ e. e.language) l.entries)

pub record HasDistinctTexts (c : Common) : Type 0 where
  pub description : HasDistinctLanguages c.description
  pub display_name : HasDistinctLanguages c.display_name

-- ---- schemas
abbrev pub HasDistinctEntries : List EnumEntry → Type 0
HasDistinctEntries es = AreDistinct (map (λ e. e.name) es) × AllByRecursion (λ e. HasDistinctTexts e.common) es

abbrev pub payload_name : PayloadTerm → List ℕ
payload_name (payload name c s) = name

abbrev pub payload_names : PayloadTerms → List (List ℕ)
payload_names no_payloads = []
payload_names (more_payloads p ps) = payload_name p ∷ payload_names ps

abbrev mutual
  pub SchemaIsDistinct : SchemaTerm → Type 0
  SchemaIsDistinct (primitive p) = Unit {0}
  SchemaIsDistinct (named id) = Unit {0}
  SchemaIsDistinct (array_of c s) = HasDistinctTexts c × SchemaIsDistinct s
  SchemaIsDistinct (enumeration c of_text es) = HasDistinctTexts c × HasDistinctEntries es
  SchemaIsDistinct (map_of c key value) = HasDistinctTexts c × PayloadIsDistinct key × PayloadIsDistinct value
  SchemaIsDistinct (object_of c fields) = HasDistinctTexts c × AreDistinct (payload_names fields) × PayloadsAreDistinct fields

  pub PayloadIsDistinct : PayloadTerm → Type 0
  PayloadIsDistinct (payload name c s) = HasDistinctTexts c × SchemaIsDistinct s

  pub PayloadsAreDistinct : PayloadTerms → Type 0
  PayloadsAreDistinct no_payloads = Unit {0}
  PayloadsAreDistinct (more_payloads p ps) = PayloadIsDistinct p × PayloadsAreDistinct ps

abbrev pub OptionalPayloadIsDistinct : Option PayloadTerm → Type 0
OptionalPayloadIsDistinct None = Unit {0}
OptionalPayloadIsDistinct (Some p) = PayloadIsDistinct p

-- ---- contents
abbrev pub content_name : ContentTerm → List ℕ
content_name (content name c k) = name

abbrev pub content_names : ContentTerms → List (List ℕ)
content_names no_contents = []
content_names (more_contents c cs) = content_name c ∷ content_names cs

abbrev mutual
  pub KindIsDistinct : KindTerm → Type 0
  KindIsDistinct (telemetry s semantic unit) = SchemaIsDistinct s
  KindIsDistinct (property s semantic unit writable) = SchemaIsDistinct s
  KindIsDistinct (command request response) = OptionalPayloadIsDistinct request × OptionalPayloadIsDistinct response
  KindIsDistinct (relationship target properties most writable) = AreDistinct (content_names properties) × ContentsAreDistinct properties
  KindIsDistinct (component of) = Unit {0}

  pub ContentIsDistinct : ContentTerm → Type 0
  ContentIsDistinct (content name c k) = HasDistinctTexts c × KindIsDistinct k

  pub ContentsAreDistinct : ContentTerms → Type 0
  ContentsAreDistinct no_contents = Unit {0}
  ContentsAreDistinct (more_contents c cs) = ContentIsDistinct c × ContentsAreDistinct cs

-- ---- interfaces
-- The identifier of a complex schema, by which an interface's `schemas` are a map.
abbrev pub schema_id : SchemaTerm → Option Identifier
schema_id (primitive p) = None
schema_id (named id) = None
schema_id (array_of c s) = c.id
schema_id (enumeration c of_text es) = c.id
schema_id (map_of c key value) = c.id
schema_id (object_of c fields) = c.id

pub record HasDeclaration (i : Interface) : Type 0 where
  pub description : HasDistinctLanguages i.description
  pub display_name : HasDistinctLanguages i.display_name
  pub parents : AreDistinct i.parents
  pub names : AreDistinct (map (λ c. c.name) i.contents)
  pub contents : AllByRecursion (λ c. ContentIsDistinct (content_term c)) i.contents
  pub identified : AllByRecursion (λ s. IsSome (schema_id (schema_term s))) i.schemas
  pub ids : AreDistinct (map (λ s. schema_id (schema_term s)) i.schemas)
  pub schemas : AllByRecursion (λ s. SchemaIsDistinct (schema_term s)) i.schemas

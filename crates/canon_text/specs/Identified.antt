-- Records whose identifiers each have a text of their own, as those of every record in memory do.
use Rattle.std.specs.Prelude.{IfSome}
use Rattle.std.specs.List.{AllByRecursion}
use Rattle.dt_base.specs.names.Grammar.{Identifier, OwnDtmiText, dtmi_text}
use Rattle.dtdl_terms.specs.Terms.{SchemaTerm, primitive, named, array_of, enumeration, map_of, object_of, PayloadTerm, payload, PayloadTerms, no_payloads, more_payloads, ContentTerm, content, KindTerm, telemetry, property, command, relationship, component, ContentTerms, no_contents, more_contents}
use Rattle.dtdl_terms.specs.TermViews.{schema_term, content_term}
use Rattle.dtdl_terms.specs.declared.common.Common.{Common}
use Rattle.dtdl_terms.specs.declared.interface.Interface.{Interface}

-- The identifier is the one that its text spells, and that text is none that is reserved.
abbrev pub IsIdentified : Identifier → Type 0
IsIdentified id = OwnDtmiText (dtmi_text id) id

abbrev pub CommonIsIdentified : Common → Type 0
CommonIsIdentified c = IfSome c.id IsIdentified

-- ---- schemas
abbrev mutual
  pub SchemaIsIdentified : SchemaTerm → Type 0
  SchemaIsIdentified (primitive p) = Unit {0}
  SchemaIsIdentified (named id) = IsIdentified id
  SchemaIsIdentified (array_of c s) = CommonIsIdentified c × SchemaIsIdentified s
  SchemaIsIdentified (enumeration c of_text es) = CommonIsIdentified c × AllByRecursion (λ e. CommonIsIdentified e.common) es
  SchemaIsIdentified (map_of c key value) = CommonIsIdentified c × PayloadIsIdentified key × PayloadIsIdentified value
  SchemaIsIdentified (object_of c fields) = CommonIsIdentified c × PayloadsAreIdentified fields

  pub PayloadIsIdentified : PayloadTerm → Type 0
  PayloadIsIdentified (payload name c s) = CommonIsIdentified c × SchemaIsIdentified s

  pub PayloadsAreIdentified : PayloadTerms → Type 0
  PayloadsAreIdentified no_payloads = Unit {0}
  PayloadsAreIdentified (more_payloads p ps) = PayloadIsIdentified p × PayloadsAreIdentified ps

-- ---- contents
abbrev mutual
  pub KindIsIdentified : KindTerm → Type 0
  KindIsIdentified (telemetry s semantic unit) = SchemaIsIdentified s
  KindIsIdentified (property s semantic unit writable) = SchemaIsIdentified s
  KindIsIdentified (command request response) = IfSome request PayloadIsIdentified × IfSome response PayloadIsIdentified
  KindIsIdentified (relationship target properties most writable) = IfSome target IsIdentified × ContentsAreIdentified properties
  KindIsIdentified (component of) = IsIdentified of

  pub ContentIsIdentified : ContentTerm → Type 0
  ContentIsIdentified (content name c k) = CommonIsIdentified c × KindIsIdentified k

  pub ContentsAreIdentified : ContentTerms → Type 0
  ContentsAreIdentified no_contents = Unit {0}
  ContentsAreIdentified (more_contents c cs) = ContentIsIdentified c × ContentsAreIdentified cs

-- ---- interfaces
pub record InterfaceIsIdentified (i : Interface) : Type 0 where
  pub id : IsIdentified i.id
  pub parents : AllByRecursion IsIdentified i.parents
  pub contents : AllByRecursion (λ c. ContentIsIdentified (content_term c)) i.contents
  pub schemas : AllByRecursion (λ s. SchemaIsIdentified (schema_term s)) i.schemas

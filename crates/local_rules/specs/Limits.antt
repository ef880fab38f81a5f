-- The limits that the local rules set to what an interface declares, by its record: how many parents, contents, fields
-- and enum entries there are, how long identifiers, names and texts are, and how deep schemas lie in one another.
use Rattle.std.specs.Prelude.{ℕ, suc, ◌≤◌, max, List, length, IfSome}
use Rattle.std.specs.List.{AllByRecursion}
use Rattle.dt_base.specs.names.Grammar.{Identifier, dtmi_text}
use Rattle.local_rules.specs.Texts.{scalar_values}
use Rattle.dtdl_terms.specs.Terms.{SchemaTerm, primitive, named, array_of, enumeration, map_of, object_of, PayloadTerm, payload, PayloadTerms, no_payloads, more_payloads, ContentTerm, content, KindTerm, telemetry, property, command, relationship, component, ContentTerms, no_contents, more_contents}
use Rattle.dtdl_terms.specs.TermViews.{schema_term, content_term}
use Rattle.dtdl_terms.specs.Distinct.{payload_names}
use Rattle.dtdl_terms.specs.declared.common.Common.{Common}
use Rattle.dtdl_terms.specs.declared.common.Localized.{Localized}
use Rattle.dtdl_terms.specs.declared.enumeration.EnumEntry.{EnumEntry}
use Rattle.dtdl_terms.specs.declared.interface.Interface.{Interface}

-- A name has at most 64 bytes, the identifier of an interface at most 128, another one at most 2,048.
abbrev pub IsShortName : List ℕ → Type 0
IsShortName name = length name ≤ 64

abbrev pub IsShortInterfaceId : Identifier → Type 0
IsShortInterfaceId id = length (dtmi_text id) ≤ 128

abbrev pub IsShortId : Identifier → Type 0
IsShortId id = length (dtmi_text id) ≤ 2048

-- A display name has at most 64 scalar values in each language, a description and a comment at most 512.
abbrev pub IsShortText : ℕ → List ℕ → Type 0
IsShortText most text = scalar_values text ≤ most

abbrev pub AreShortTexts : ℕ → Localized → Type 0
AreShortTexts most l = AllByRecursion (λ e. IsShortText most e.text) l.entries

pub record HasShortTexts (c : Common) : Type 0 where
  pub id : IfSome c.id IsShortId
  pub comment : IfSome c.comment (IsShortText 512)
  pub description : AreShortTexts 512 c.description
  pub display_name : AreShortTexts 64 c.display_name

-- ---- schemas
pub record EnumEntryIsWithin (e : EnumEntry) : Type 0 where
  pub name : IsShortName e.name
  pub common : HasShortTexts e.common

-- How many complex schemas lie in one another. A reference counts as none here.
abbrev mutual
  pub levels : SchemaTerm → ℕ
  levels (primitive p) = 0
  levels (named id) = 0
  levels (array_of c s) = suc (levels s)
  levels (enumeration c of_text es) = 1
  levels (map_of c key value) = suc (max (payload_levels key) (payload_levels value))
  levels (object_of c fields) = suc (payloads_levels fields)

  pub payload_levels : PayloadTerm → ℕ
  payload_levels (payload name c s) = levels s

  pub payloads_levels : PayloadTerms → ℕ
  payloads_levels no_payloads = 0
  payloads_levels (more_payloads p ps) = max (payload_levels p) (payloads_levels ps)

-- An enum has at most 100 entries, an object at most 30 fields.
abbrev mutual
  pub SchemaIsWithin : SchemaTerm → Type 0
  SchemaIsWithin (primitive p) = Unit {0}
  SchemaIsWithin (named id) = IsShortId id
  SchemaIsWithin (array_of c s) = HasShortTexts c × SchemaIsWithin s
  SchemaIsWithin (enumeration c of_text es) = HasShortTexts c × (length es ≤ 100) × AllByRecursion EnumEntryIsWithin es
  SchemaIsWithin (map_of c key value) = HasShortTexts c × PayloadIsWithin key × PayloadIsWithin value
  SchemaIsWithin (object_of c fields) = HasShortTexts c × (length (payload_names fields) ≤ 30) × PayloadsAreWithin fields

  pub PayloadIsWithin : PayloadTerm → Type 0
  PayloadIsWithin (payload name c s) = IsShortName name × HasShortTexts c × SchemaIsWithin s

  pub PayloadsAreWithin : PayloadTerms → Type 0
  PayloadsAreWithin no_payloads = Unit {0}
  PayloadsAreWithin (more_payloads p ps) = PayloadIsWithin p × PayloadsAreWithin ps

-- A schema that lies in no other has at most five levels.
abbrev pub OuterSchemaIsWithin : SchemaTerm → Type 0
OuterSchemaIsWithin s = (levels s ≤ 5) × SchemaIsWithin s

abbrev pub OuterPayloadIsWithin : PayloadTerm → Type 0
OuterPayloadIsWithin p = (payload_levels p ≤ 5) × PayloadIsWithin p

-- ---- contents
abbrev mutual
  pub KindIsWithin : KindTerm → Type 0
  KindIsWithin (telemetry s semantic unit) = OuterSchemaIsWithin s × IfSome semantic IsShortName × IfSome unit IsShortName
  KindIsWithin (property s semantic unit writable) = OuterSchemaIsWithin s × IfSome semantic IsShortName × IfSome unit IsShortName
  KindIsWithin (command request response) = IfSome request OuterPayloadIsWithin × IfSome response OuterPayloadIsWithin
  KindIsWithin (relationship target properties most writable) = IfSome target IsShortInterfaceId × ContentsAreWithin properties
  KindIsWithin (component of) = IsShortInterfaceId of

  pub ContentIsWithin : ContentTerm → Type 0
  ContentIsWithin (content name c k) = IsShortName name × HasShortTexts c × KindIsWithin k

  pub ContentsAreWithin : ContentTerms → Type 0
  ContentsAreWithin no_contents = Unit {0}
  ContentsAreWithin (more_contents c cs) = ContentIsWithin c × ContentsAreWithin cs

-- ---- interfaces
-- An interface has at most 2 parents and 300 contents.
pub record IsWithinLimits (i : Interface) : Type 0 where
  pub id : IsShortInterfaceId i.id
  pub comment : IfSome i.comment (IsShortText 512)
  pub description : AreShortTexts 512 i.description
  pub display_name : AreShortTexts 64 i.display_name
  pub few_parents : length i.parents ≤ 2
  pub parents : AllByRecursion IsShortInterfaceId i.parents
  pub few_contents : length i.contents ≤ 300
  pub contents : AllByRecursion (λ c. ContentIsWithin (content_term c)) i.contents
  pub schemas : AllByRecursion (λ s. OuterSchemaIsWithin (schema_term s)) i.schemas

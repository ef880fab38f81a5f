-- The identifiers of what documents declare are those that their texts spell.
use Rattle.std.proofs.Common.{ℕ, ◌+◌, List, [], ◌∷◌, Option, Some, None, inl, inr, sym, subst}
use Rattle.std.specs.Prelude.{IfSome}
use Rattle.std.specs.List.{AllByRecursion, AllZip, enumerate_from}
use Rattle.dt_base.specs.names.Grammar.{Identifier, OwnDtmiText, dtmi_text}
use Rattle.json_decimal.specs.Number.{Number}
use Rattle.json_tree.specs.Values.{Json, null, truth, number, text, array, object, Elements, no_elements, element, Members}
use Rattle.dtdl_terms.specs.Terms.{SchemaTerm, primitive, named, array_of, enumeration, map_of, object_of, PayloadTerm, payload, PayloadTerms, no_payloads, more_payloads, ContentTerm, content, KindTerm, telemetry, property, command, relationship, component, ContentTerms, no_contents, more_contents}
use Rattle.dtdl_terms.specs.TermViews.{schema_term, content_term}
use Rattle.dtdl_terms.specs.declared.common.Common.{Common}
use Rattle.dtdl_terms.specs.declared.content.Content.{Content}
use Rattle.dtdl_terms.specs.declared.enumeration.EnumEntry.{EnumEntry}
use Rattle.dtdl_terms.specs.declared.interface.Interface.{Interface}
use Rattle.dtdl_terms.specs.declared.schema.Schema.{Schema}
use Rattle.dtdl_terms.specs.declared.uploaded.Uploaded.{Uploaded}
use Rattle.json_tree.specs.Members.{list_of}
use Rattle.local_rules.specs.declared.role.Position.{Position}
use Rattle.local_rules.specs.declared.role.Position.TheVariants as position
use Rattle.local_rules.specs.Declarations.{AreKind, AreProperties, ArePayloads, DeclaresInterface, HasCommon, HasOptionalId, HasOptionalPayload, HasParents, IsContent, IsContentEntry, IsEnumEntry, IsIdentifier, IsPayload, IsSchema}
use Rattle.model_read.specs.Uploads.{AreUploaded, IsUploadedAt}
use Rattle.canon_text.specs.Identified.{CommonIsIdentified, ContentIsIdentified, ContentsAreIdentified, InterfaceIsIdentified, IsIdentified, KindIsIdentified, PayloadIsIdentified, PayloadsAreIdentified, SchemaIsIdentified}

id_own : (k : List ℕ) (ms : Members Number) (o : Option Identifier) → HasOptionalId k ms o → IfSome o IsIdentified
id_own k ms None g = tt
id_own k ms (Some id) g = g.2.1

common_own : (ms : Members Number) (c : Common) → HasCommon ms c → CommonIsIdentified c
common_own ms c g = id_own _ ms c.id g.id

entries_own : (vs : List Json) (es : List EnumEntry) → AllZip IsEnumEntry vs es → AllByRecursion (λ e. CommonIsIdentified e.common) es
entries_own [] [] all = tt
entries_own [] (e ∷ es) all = absurd all
entries_own (v ∷ vs) [] all = absurd all
entries_own (v ∷ vs) (e ∷ es) all = (common_own all.0.0 e.common all.0.2.common, entries_own vs es all.1)

mutual
  schema_own : (s : SchemaTerm) (v : Json) → IsSchema s v → SchemaIsIdentified s
  schema_own (primitive p) v g = tt
  schema_own (named id) v g = g.1
  schema_own (array_of c s) v g = (common_own g.0 c g.3, schema_own s g.1 g.5)
  schema_own (enumeration c a es) v g = (common_own g.0 c g.3, entries_own (list_of g.1) es g.6)
  schema_own (map_of c k e) v g = (common_own g.0 c g.4, payload_own k g.1 g.6, payload_own e g.2 g.8)
  schema_own (object_of c fs) v g = (common_own g.0 c g.3, payloads_own fs g.1 g.5)

  payload_own : (p : PayloadTerm) (v : Json) → IsPayload p v → PayloadIsIdentified p
  payload_own (payload n c s) v g = (common_own g.0 c g.4, schema_own s g.1 g.6)

  payloads_own : (ps : PayloadTerms) (vs : Elements Number) → ArePayloads ps vs → PayloadsAreIdentified ps
  payloads_own no_payloads vs g = tt
  payloads_own (more_payloads p ps) no_elements g = absurd g
  payloads_own (more_payloads p ps) (element v vs) g = (payload_own p v g.0, payloads_own ps vs g.1)

optional_payload_own : (k : List ℕ) (ms : Members Number) (o : Option PayloadTerm) → HasOptionalPayload k ms o → IfSome o PayloadIsIdentified
optional_payload_own k ms None g = tt
optional_payload_own k ms (Some p) g = payload_own p g.0 g.2

mutual
  kind_own : (p : Position) (k : KindTerm) (ms : Members Number) → AreKind p k ms → KindIsIdentified k
  kind_own p (telemetry s a u) ms g = schema_own s g.0.0 g.0.2
  kind_own p (property s a u w) ms g = schema_own s g.0.0 g.0.2
  kind_own p (command q r) ms g = (optional_payload_own _ ms q g.0, optional_payload_own _ ms r g.1)
  kind_own p (relationship t cs m w) ms g = (id_own _ ms t g.0, properties_own cs g.1.0 g.1.2)
  kind_own p (component of) ms g = g.2.1

  content_own : (p : Position) (c : ContentTerm) (v : Json) → IsContent p c v → ContentIsIdentified c
  content_own p (content n c k) v g = (common_own g.0 c g.3, kind_own p k g.0 g.4)

  properties_own : (cs : ContentTerms) (vs : Elements Number) → AreProperties cs vs → ContentsAreIdentified cs
  properties_own no_contents vs g = tt
  properties_own (more_contents c cs) no_elements g = absurd g
  properties_own (more_contents c cs) (element v vs) g = (content_own position.Property c v g.0.0, properties_own cs vs g.1)

contents_own : (vs : List Json) (cs : List Content) → AllZip IsContentEntry vs cs → AllByRecursion (λ c. ContentIsIdentified (content_term c)) cs
contents_own [] [] all = tt
contents_own [] (c ∷ cs) all = absurd all
contents_own (v ∷ vs) [] all = absurd all
contents_own (v ∷ vs) (c ∷ cs) all = (content_own position.Content (content_term c) v all.0.1, contents_own vs cs all.1)

schemas_own : (vs : List Json) (ss : List Schema) → AllZip (λ v s. IsSchema (schema_term s) v) vs ss → AllByRecursion (λ s. SchemaIsIdentified (schema_term s)) ss
schemas_own [] [] all = tt
schemas_own [] (s ∷ ss) all = absurd all
schemas_own (v ∷ vs) [] all = absurd all
schemas_own (v ∷ vs) (s ∷ ss) all = (schema_own (schema_term s) v all.0, schemas_own vs ss all.1)

pub parents_own : (o : Option Json) (ids : List Identifier) → HasParents o ids → AllByRecursion (λ id. OwnDtmiText (dtmi_text id) id) ids
parents_own None ids has = subst (AllByRecursion (λ id. OwnDtmiText (dtmi_text id) id)) (sym has) tt
parents_own (Some v) ids (inl has) = subst (AllByRecursion (λ id. OwnDtmiText (dtmi_text id) id)) (sym has.1) (has.2.1, tt)
parents_own (Some v) ids (inr has) = each (list_of has.0) ids has.2
  where
    each : (vs : List Json) (js : List Identifier) → AllZip IsIdentifier vs js → AllByRecursion (λ id. OwnDtmiText (dtmi_text id) id) js
    each [] [] all = tt
    each [] (j ∷ js) all = absurd all
    each (w ∷ ws) [] all = absurd all
    each (w ∷ ws) (j ∷ js) all = (all.0.1, each ws js all.1)

pub interface_own : (ms : Members Number) (i : Interface) → DeclaresInterface ms i → InterfaceIsIdentified i
interface_own ms i g = record {
  id = g.id.2.1;
  parents = parents_own _ i.parents g.parents;
  contents = contents_own (list_of g.contents.0) i.contents g.contents.2;
  schemas = schemas_own (list_of g.schemas.0) i.schemas g.schemas.2;
}

-- and of each interface of a document
listed_own : (whole : Json) (nth n : ℕ) (vs : List Json) (us : List Uploaded) → AllZip (IsUploadedAt whole nth) (enumerate_from n vs) us
    → AllByRecursion (λ u. InterfaceIsIdentified u.interface) us
listed_own whole nth n [] [] g = tt
listed_own whole nth n [] (u ∷ us) g = absurd g
listed_own whole nth n (v ∷ vs) [] g = absurd g
listed_own whole nth n (v ∷ vs) (u ∷ us) g = (interface_own g.0.members u.interface g.0.declares, listed_own whole nth (n + 1) vs us g.1)

pub uploads_own : (whole : Json) (nth : ℕ) (us : List Uploaded) → AreUploaded whole nth us → AllByRecursion (λ u. InterfaceIsIdentified u.interface) us
uploads_own (array vs) nth us g = listed_own (array vs) nth 0 (list_of vs) us g
uploads_own (object ms) nth us g =
    subst (λ (xs : List Uploaded). AllByRecursion (λ u. InterfaceIsIdentified u.interface) xs) (sym g.1) (interface_own g.2.members g.0.interface g.2.declares, tt)
uploads_own null nth us g = absurd g
uploads_own (truth b) nth us g = absurd g
uploads_own (number n) nth us g = absurd g
uploads_own (text bytes) nth us g = absurd g

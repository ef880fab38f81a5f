-- Which asks may be made: what an ask brings with it, so that the graph need not look for it.
use Rattle.std.specs.Prelude.{◌≡◌, ℕ, ◌≤◌, List, [], ◌∷◌, Option, Some, IfSome, length, map, codes}
use Rattle.std.specs.List.{AllByRecursion}
use Rattle.std.specs.List.Sorted.{IsStrictlySortedBy}
use Rattle.std.specs.Ordering.{nat_cmp}
use Rattle.std.specs.Cmp.Lexicographic.{slice_cmp}
use Rattle.dt_base.specs.names.Grammar.{Identifier, NameText, OwnDtmiText, dtmi_text}
use Rattle.json_tree.specs.Values.{Json, HasDistinctKeys}
use Rattle.json_tree.specs.Printing.{NestsWithin}
use Rattle.json_tree.specs.View.{view}
use Rattle.dtdl_terms.specs.declared.uploaded.Uploaded.{Uploaded}
use Rattle.local_rules.specs.Soundness.{IsSoundInterface}
use Rattle.extend_resolve.specs.Breaches.{HasOrdinals}
use Rattle.query_terms.specs.Queries.{asked, key_length}
use Rattle.query_terms.specs.declared.query.Query.{Query}
use Rattle.query_grammar.specs.Spelled.{SpellsQuery}
use Rattle.twin_patch.specs.Operations.{operations_of}
use Rattle.twin_patch.specs.Reading.{IsPatch}
use Rattle.twin_patch.specs.declared.entry.PatchOf.{PatchOf}
use Rattle.twin_patch.specs.declared.entry.PatchOf.TheVariants as patches
use Rattle.twin_patch.specs.declared.patch.Patch.{Patch}
use Rattle.twin_value.specs.Breaches.{IsTwinId, HasNoBreach, IsOuterBreach, IsOuterLinkBreach, text_under}
use Rattle.twin_value.specs.Twins.{model_text}
use Rattle.graph_asks.specs.declared.ask.Ask.{Ask}
use Rattle.graph_asks.specs.declared.ask.Ask.TheVariants as asks

-- ---- identifiers
-- An identifier of a model: a DTMI that is not reserved, of at most 128 bytes.
abbrev pub IsModelOf : Identifier → Type 0
IsModelOf id = OwnDtmiText (dtmi_text id) id × (length (dtmi_text id) ≤ 128)

abbrev pub IsNameOf : List ℕ → Type 0
IsNameOf name = NameText name

-- ---- interfaces
-- Its ordinals tell its places apart.
pub record IsSoundUpload (u : Uploaded) : Type 0 where
  pub interface : IsSoundInterface u.interface
  pub ordinals : HasOrdinals u

-- In the order of documents and of positions in them.
abbrev pub upload_place : Uploaded → List ℕ
upload_place u = u.document ∷ u.index ∷ []

pub record AreSoundUploads (us : List Uploaded) : Type 0 where
  pub each : AllByRecursion IsSoundUpload us
  pub order : IsStrictlySortedBy (slice_cmp nat_cmp) (map upload_place us)

-- ---- trees
-- A value that was read: no object in it has two members of one key, and it nests at most 64 deep.
pub record IsReadValue (v : Json) : Type 0 where
  pub distinct : HasDistinctKeys v
  pub shallow : NestsWithin 64 v

-- Where a body has a text under the key, it is this one.
abbrev pub Agrees : List ℕ → List ℕ → Json → Type 0
Agrees key given v = IfSome (text_under key v) (λ bytes. bytes ≡ given)

-- The body of a twin of this id and model, as far as it is judged without the model.
pub record IsTwinBody (id : List ℕ) (model : Identifier) (v : Json) : Type 0 where
  pub read : IsReadValue v
  pub unbroken : HasNoBreach (IsOuterBreach v)
  pub names : model_text v ≡ Some (dtmi_text model)
  pub agrees : Agrees (codes "$dtId") id v

-- The body of a relationship of this source, id, name and target, as far as it is judged without the model.
pub record IsLinkBody (source id name target : List ℕ) (v : Json) : Type 0 where
  pub read : IsReadValue v
  pub unbroken : HasNoBreach (IsOuterLinkBreach v)
  pub named : text_under (codes "$relationshipName") v ≡ Some name
  pub leads : text_under (codes "$targetId") v ≡ Some target
  pub agrees : Agrees (codes "$relationshipId") id v
  pub begins : Agrees (codes "$sourceId") source v

-- A patch that was read for a twin, a component or a relationship.
abbrev pub IsReadPatch : PatchOf → Patch → Type 0
IsReadPatch of patch = (v : Json) × IsReadValue v × IsPatch of v (operations_of patch.ops)

-- ---- queries
-- A query that some text is, and an id for each part of the key of its rows.
abbrev pub IsReadQuery : Query → Type 0
IsReadQuery query = (text : List ℕ) × SpellsQuery text (asked query)

abbrev pub FitsKey : Query → Option (List (List ℕ)) → Type 0
FitsKey query after = IfSome after (λ ids. (length ids ≡ key_length (asked query)) × AllByRecursion IsTwinId ids)

-- ---- asks
abbrev pub IsSoundAsk : Ask → Type 0
IsSoundAsk (asks.PutModels models) = AreSoundUploads models
IsSoundAsk (asks.GetModel id) = IsModelOf id
IsSoundAsk asks.ListModels = Unit {0}
IsSoundAsk (asks.Mark id on) = IsModelOf id
IsSoundAsk (asks.DropModel id) = IsModelOf id
IsSoundAsk asks.Canon = Unit {0}
IsSoundAsk (asks.PutTwin id model tree) = IsTwinId id × IsModelOf model × IsTwinBody id model (view tree)
IsSoundAsk (asks.GetTwin id) = IsTwinId id
IsSoundAsk (asks.PatchTwin id patch) = IsTwinId id × IsReadPatch patches.Twin patch
IsSoundAsk (asks.DropTwin id) = IsTwinId id
IsSoundAsk (asks.GetPart id name) = IsTwinId id × IsNameOf name
IsSoundAsk (asks.PatchPart id name patch) = IsTwinId id × IsNameOf name × IsReadPatch patches.Part patch
IsSoundAsk (asks.PutRel source id name target tree) = IsTwinId source × IsTwinId id × IsNameOf name × IsTwinId target × IsLinkBody source id name target (view tree)
IsSoundAsk (asks.GetRel source id) = IsTwinId source × IsTwinId id
IsSoundAsk (asks.PatchRel source id patch) = IsTwinId source × IsTwinId id × IsReadPatch patches.Rel patch
IsSoundAsk (asks.DropRel source id) = IsTwinId source × IsTwinId id
IsSoundAsk (asks.ListOut source name after) = IsTwinId source × IfSome after IsTwinId
IsSoundAsk (asks.ListIn target after) = IsTwinId target × IfSome after (λ ids. IsTwinId ids.0 × IsTwinId ids.1)
IsSoundAsk (asks.Query query after) = IsReadQuery query × FitsKey query after

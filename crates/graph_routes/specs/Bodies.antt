-- What bodies say: models to put, and a mark to set; and why others are refused.
use Rattle.std.specs.Prelude.{◌≡◌, ℕ, ◌<◌, List, [], ◌∷◌, length, Bool, codes}
use Rattle.json_tree.specs.Values.{Json, Raw, null, truth, number, text, array, object}
use Rattle.json_tree.specs.Grammar.{IsText}
use Rattle.json_tree.specs.Pointers.{IsPointerOf}
use Rattle.json_tree.specs.declared.places.Place.{Place}
use Rattle.json_read.specs.Faults.{IsFault}
use Rattle.json_read.specs.declared.fault.JsonFault.{JsonFault}
use Rattle.json_read.specs.declared.fault.JsonFault.TheVariants as faults
use Rattle.local_rules.specs.Breaches.{BreaksNoLocalRule, IsFirstBreach}
use Rattle.local_rules.specs.Codes.{rule_code}
use Rattle.json_tree.specs.Members.{list_of}
use Rattle.local_rules.specs.declared.rule.LocalRule.{LocalRule}
use Rattle.model_read.specs.Uploads.{AreUploaded}
use Rattle.dtdl_terms.specs.declared.uploaded.Uploaded.{Uploaded}
use Rattle.twin_patch.specs.Codes.{code_text}
use Rattle.twin_patch.specs.Operations.{Change, add, replace, remove, Operation}
use Rattle.twin_patch.specs.Reading.{IsPatch, IsPatchFault}
use Rattle.twin_patch.specs.declared.code.PatchCode.{PatchCode}
use Rattle.twin_patch.specs.declared.entry.PatchOf.{PatchOf}
use Rattle.twin_patch.specs.declared.entry.PatchOf.TheVariants as patches
use Rattle.graph_asks.specs.declared.refusal.At.TheVariants as at
use Rattle.graph_asks.specs.declared.refusal.Refusal.{Refusal}
use Rattle.graph_asks.specs.declared.refusal.Refusal.TheVariants as refusals

-- ---- JSON
-- The refusal of a body with a fault at this place of its value.
abbrev pub RefusesPlace : List ℕ → Place → List ℕ → Refusal → Type 0
RefusesPlace body place code refusal = (raw : Raw) × (pointer : List ℕ) × IsText body raw × IsPointerOf raw place.steps pointer
    × (refusal ≡ refusals.JsonFault (at.Pointer pointer) code)

-- The refusal of a body for this fault: it names a byte by its number, a value by its pointer.
abbrev pub RefusesFor : List ℕ → JsonFault → Refusal → Type 0
RefusesFor body (faults.Byte n) refusal = refusal ≡ refusals.JsonFault (at.Number n) (codes "Byte")
RefusesFor body (faults.Ends n) refusal = refusal ≡ refusals.JsonFault (at.Number n) (codes "Ends")
RefusesFor body (faults.Duplicate place) refusal = RefusesPlace body place (codes "Duplicate") refusal
RefusesFor body (faults.Range place) refusal = RefusesPlace body place (codes "Range") refusal
RefusesFor body faults.OutOfMemory refusal = ⊥

-- The body is no JSON text of the profile, and this refusal names its fault.
abbrev pub RefusesJson : List ℕ → Refusal → Type 0
RefusesJson body refusal = (fault : JsonFault) × IsFault body fault × RefusesFor body fault refusal

-- ---- models
-- The most models that a body lists.
abbrev pub most_models : ℕ
most_models = 250

-- The value is a list of more entries, whatever they are.
abbrev pub IsTooMany : Json → Type 0
IsTooMany null = ⊥
IsTooMany (truth b) = ⊥
IsTooMany (number n) = ⊥
IsTooMany (text bytes) = ⊥
IsTooMany (array vs) = most_models < length (list_of vs)
IsTooMany (object ms) = ⊥

-- The refusal of a document that breaks a local rule: it names the first breach.
abbrev pub RefusesModels : Json → Refusal → Type 0
RefusesModels v refusal = (place : List ℕ) × (broken : LocalRule) × (pointer : List ℕ) × IsFirstBreach v place broken × IsPointerOf v place pointer
    × (refusal ≡ refusals.ModelFault (at.Pointer pointer) (rule_code broken))

-- The value is an interface or a list of interfaces without a breach, and these are what it declares. They count as those
-- of the document 1.
abbrev pub DeclaresModels : Json → List Uploaded → Type 0
DeclaresModels v models = BreaksNoLocalRule v × AreUploaded v 1 models

-- ---- patches
-- The refusal of a value that is no patch of this kind.
abbrev pub RefusesPatch : PatchOf → Json → Refusal → Type 0
RefusesPatch of v refusal = (index : ℕ) × (code : PatchCode) × IsPatchFault of v index code × (refusal ≡ refusals.PatchFault (code_text code) index)

-- ---- marks
-- The change sets a member to a truth value.
abbrev pub SetsTo : Change → Bool → Type 0
SetsTo (add v) on = v ≡ truth on
SetsTo (replace v) on = v ≡ truth on
SetsTo remove on = ⊥

-- One operation, which sets a member to this truth value.
abbrev pub SetsOne : List Operation → Bool → Type 0
SetsOne os on = (o : Operation) × (os ≡ o ∷ []) × SetsTo o.change on

-- The value is a patch of a model that sets its mark to this.
abbrev pub SetsMark : Json → Bool → Type 0
SetsMark v on = (os : List Operation) × IsPatch patches.Model v os × SetsOne os on

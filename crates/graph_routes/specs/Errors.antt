-- The bodies of refusals, and their statuses (RFC 9110, section 15; the codes and their members are this project's own).
use Rattle.std.specs.Prelude.{ℕ, List, [], ◌∷◌, ◌++◌, Option, Some, None, codes}
use Rattle.std.specs.Fmt.{decimal}
use Rattle.json_tree.specs.Printing.{quoted}
use Rattle.dtdl_terms.specs.Limits.{limit_code}
use Rattle.graph_asks.specs.declared.refusal.At.{At}
use Rattle.graph_asks.specs.declared.refusal.At.TheVariants as at
use Rattle.graph_asks.specs.declared.refusal.Refusal.{Refusal}
use Rattle.graph_asks.specs.declared.refusal.Refusal.TheVariants as refusals

abbrev pub status_of : Refusal → ℕ
status_of refusals.NoRoute = 404
status_of (refusals.BadMethod allow) = 405
status_of refusals.BadHead = 400
status_of refusals.CutOff = 400
status_of refusals.TransferCoding = 501
status_of (refusals.BodyTooLong limit) = 413
status_of (refusals.BadId part) = 400
status_of refusals.BadToken = 400
status_of (refusals.JsonFault place fault) = 400
status_of (refusals.TooManyModels limit) = 400
status_of (refusals.ModelFault place fault) = 400
status_of (refusals.PatchFault fault index) = 400
status_of (refusals.BodyFault place fault) = 400
status_of (refusals.IdDiffers given path) = 400
status_of (refusals.QueryFault fault place) = 400
status_of (refusals.ModelNotFound id) = 404
status_of (refusals.TwinNotFound id) = 404
status_of (refusals.RelationshipNotFound id) = 404
status_of (refusals.ComponentNotFound id) = 404
status_of (refusals.ModelExists id) = 409
status_of (refusals.ModelInUse by) = 409
status_of (refusals.TwinInUse id source) = 409
status_of (refusals.DoesNotFit id source) = 409
status_of (refusals.TwinDoesNotFit twin) = 409
status_of (refusals.Frozen model) = 409
status_of (refusals.Decommissioned model) = 409
status_of (refusals.WrongTarget model) = 409
status_of (refusals.Multiplicity most) = 409
status_of (refusals.Full limit) = 507

-- ---- members
-- The member with a text, and that with a number.
abbrev pub text_member : List ℕ → List ℕ → List ℕ
text_member key text = quoted key ++ 58 ∷ quoted text

abbrev pub count : List ℕ → ℕ → List ℕ
count key n = quoted key ++ 58 ∷ decimal n

abbrev pub code : List ℕ → List ℕ
code text = text_member (codes "code") text

abbrev pub fault_word : List ℕ → List ℕ
fault_word text = text_member (codes "fault") text

-- A place is a number or a pointer.
abbrev pub place_member : At → List ℕ
place_member (at.Number n) = count (codes "at") n
place_member (at.Pointer pointer) = text_member (codes "at") pointer

abbrev pub with_place : Option At → List (List ℕ) → List (List ℕ)
with_place None members = members
with_place (Some place) members = place_member place ∷ members

-- The members of each refusal, in the order of their keys.
abbrev pub refusal_members : Refusal → List (List ℕ)
refusal_members refusals.NoRoute = code (codes "NoRoute") ∷ []
refusal_members (refusals.BadMethod allow) = code (codes "BadMethod") ∷ []
refusal_members refusals.BadHead = code (codes "BadHead") ∷ []
refusal_members refusals.CutOff = code (codes "CutOff") ∷ []
refusal_members refusals.TransferCoding = code (codes "TransferCoding") ∷ []
refusal_members (refusals.BodyTooLong limit) = code (codes "BodyTooLong") ∷ count (codes "limit") limit ∷ []
refusal_members (refusals.BadId part) = code (codes "BadId") ∷ count (codes "part") part ∷ []
refusal_members refusals.BadToken = code (codes "BadToken") ∷ []
refusal_members (refusals.JsonFault place fault) = place_member place ∷ code (codes "JsonFault") ∷ fault_word fault ∷ []
refusal_members (refusals.TooManyModels limit) = code (codes "TooManyModels") ∷ count (codes "limit") limit ∷ []
refusal_members (refusals.ModelFault place fault) = place_member place ∷ code (codes "ModelFault") ∷ fault_word fault ∷ []
refusal_members (refusals.PatchFault fault index) = code (codes "PatchFault") ∷ fault_word fault ∷ count (codes "index") index ∷ []
refusal_members (refusals.BodyFault place fault) = place_member place ∷ code (codes "BodyFault") ∷ fault_word fault ∷ []
refusal_members (refusals.IdDiffers given path) = code (codes "IdDiffers") ∷ text_member (codes "given") given ∷ text_member (codes "path") path ∷ []
refusal_members (refusals.QueryFault fault place) = with_place place (code (codes "QueryFault") ∷ fault_word fault ∷ [])
refusal_members (refusals.ModelNotFound id) = code (codes "ModelNotFound") ∷ text_member (codes "id") id ∷ []
refusal_members (refusals.TwinNotFound id) = code (codes "TwinNotFound") ∷ text_member (codes "id") id ∷ []
refusal_members (refusals.RelationshipNotFound id) = code (codes "RelationshipNotFound") ∷ text_member (codes "id") id ∷ []
refusal_members (refusals.ComponentNotFound id) = code (codes "ComponentNotFound") ∷ text_member (codes "id") id ∷ []
refusal_members (refusals.ModelExists id) = code (codes "ModelExists") ∷ text_member (codes "id") id ∷ []
refusal_members (refusals.ModelInUse by) = text_member (codes "by") by ∷ code (codes "ModelInUse") ∷ []
refusal_members (refusals.TwinInUse id source) = code (codes "TwinInUse") ∷ text_member (codes "id") id ∷ text_member (codes "source") source ∷ []
refusal_members (refusals.DoesNotFit id source) = code (codes "DoesNotFit") ∷ text_member (codes "id") id ∷ text_member (codes "source") source ∷ []
refusal_members (refusals.TwinDoesNotFit twin) = code (codes "TwinDoesNotFit") ∷ text_member (codes "twin") twin ∷ []
refusal_members (refusals.Frozen model) = code (codes "Frozen") ∷ text_member (codes "model") model ∷ []
refusal_members (refusals.Decommissioned model) = code (codes "Decommissioned") ∷ text_member (codes "model") model ∷ []
refusal_members (refusals.WrongTarget model) = code (codes "WrongTarget") ∷ text_member (codes "model") model ∷ []
refusal_members (refusals.Multiplicity most) = code (codes "Multiplicity") ∷ count (codes "max") most ∷ []
refusal_members (refusals.Full limit) = code (codes "Full") ∷ text_member (codes "limit") (limit_code limit) ∷ []

-- ---- the text
-- Members with commas between them.
abbrev pub joined_texts : List (List ℕ) → List ℕ
joined_texts [] = []
joined_texts (m ∷ []) = m
joined_texts (m ∷ n ∷ ms) = m ++ 44 ∷ joined_texts (n ∷ ms)

-- An object whose one member, `error`, is the object of these members.
abbrev pub error_text : List (List ℕ) → List ℕ
error_text members = codes "{\"error\":{" ++ (joined_texts members ++ codes "}}")

abbrev pub refusal_body : Refusal → List ℕ
refusal_body refusal = error_text (refusal_members refusal)

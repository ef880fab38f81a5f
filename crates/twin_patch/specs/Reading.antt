-- What a JSON value says as a patch (RFC 6902, sections 3 and 4), and what is wrong with it where it is none.
use Rattle.std.specs.Prelude.{◌≡◌, ℕ, zero, suc, ◌<◌, ◌≤◌, ◌⊎◌, List, [], ◌∷◌, length, Bool, Option, Some, None, Result, Ok, Err, codes}
use Rattle.json_decimal.specs.Number.{Number}
use Rattle.json_tree.specs.Values.{Json, null, truth, number, text, array, object, Elements, no_elements, element}
use Rattle.json_tree.specs.Pointers.{pointer_text}
use Rattle.twin_patch.specs.Objects.{value_under}
use Rattle.twin_patch.specs.Operations.{Change, add, replace, remove, Operation, operation_of, operations_of}
use Rattle.twin_patch.specs.declared.code.PatchCode.{PatchCode}
use Rattle.twin_patch.specs.declared.code.PatchCode.TheVariants as code
use Rattle.twin_patch.specs.declared.patch.Patch.{Patch}
use Rattle.twin_patch.specs.declared.patch.Op.{Op}
use Rattle.twin_patch.specs.declared.entry.OpEnd.{OpEnd}
use Rattle.twin_patch.specs.declared.entry.OpEnd.TheVariants as judged
use Rattle.twin_patch.specs.declared.entry.PatchOf.{PatchOf}
use Rattle.twin_patch.specs.declared.entry.PatchOf.TheVariants as target
use Rattle.twin_patch.specs.declared.reading.PatchEnd.{PatchEnd}
use Rattle.twin_patch.specs.declared.reading.PatchEnd.TheVariants as ends
use Rattle.twin_patch.specs.Words.{word_text}
use Rattle.twin_patch.specs.declared.word.Word.{Word}
use Rattle.twin_patch.specs.declared.word.Word.TheVariants as word

-- The value has this under a key: it is an object with such a member.
abbrev pub HasUnderKey : Json → List ℕ → Json → Type 0
HasUnderKey null key v = ⊥
HasUnderKey (truth b) key v = ⊥
HasUnderKey (number n) key v = ⊥
HasUnderKey (text bytes) key v = ⊥
HasUnderKey (array vs) key v = ⊥
HasUnderKey (object ms) key v = value_under key ms ≡ Some v

abbrev pub IsJsonObject : Json → Type 0
IsJsonObject null = ⊥
IsJsonObject (truth b) = ⊥
IsJsonObject (number n) = ⊥
IsJsonObject (text bytes) = ⊥
IsJsonObject (array vs) = ⊥
IsJsonObject (object ms) = Unit {0}

-- The word of a change.
abbrev pub change_word : Change → Word
change_word (add v) = word.Add
change_word (replace v) = word.Replace
change_word remove = word.Remove

abbrev pub HasWord : Json → Word → Type 0
HasWord entry w = HasUnderKey entry (codes "op") (text (word_text w))

-- The path is that of the pointer (RFC 6901), and has from 1 to 64 parts.
abbrev pub HasPath : Json → List (List ℕ) → Type 0
HasPath entry path = HasUnderKey entry (codes "path") (text (pointer_text path)) × (0 < length path) × (length path ≤ 64)

-- The operation has the value that its word wants.
abbrev pub HasValue : Json → Change → Type 0
HasValue entry (add v) = HasUnderKey entry (codes "value") v
HasValue entry (replace v) = HasUnderKey entry (codes "value") v
HasValue entry remove = Unit {0}

-- The first part begins with `$`; the `replace` of `/$metadata/$model` in a patch of a twin is excepted.
abbrev pub IsModelMove : PatchOf → Word → List (List ℕ) → Type 0
IsModelMove of w path = (of ≡ target.Twin) × (w ≡ word.Replace) × (path ≡ codes "$metadata" ∷ codes "$model" ∷ [])

abbrev pub BeginsWithDollar : List (List ℕ) → Type 0
BeginsWithDollar path = (first : List ℕ) × (rest : List (List ℕ)) × (path ≡ (36 ∷ first) ∷ rest)

abbrev pub IsProtected : PatchOf → Word → List (List ℕ) → Type 0
IsProtected of w path = BeginsWithDollar path × (IsModelMove of w path → ⊥)

-- The entry of a patch is this operation.
abbrev pub IsOperation : PatchOf → Json → Operation → Type 0
IsOperation of entry o = HasWord entry (change_word o.change) × HasPath entry o.path × HasValue entry o.change × (IsProtected of (change_word o.change) o.path → ⊥)

-- The first code that stands at an entry: what the codes before it ask is met, and what it asks is not.
abbrev pub IsFirstCode : PatchOf → Json → PatchCode → Type 0
IsFirstCode of entry code.NotAList = ⊥
IsFirstCode of entry code.NotAnObject = IsJsonObject entry → ⊥
IsFirstCode of entry code.BadOp = IsJsonObject entry × ((w : Word) → HasWord entry w → ⊥)
IsFirstCode of entry code.BadPath = (w : Word) × HasWord entry w × ((path : List (List ℕ)) → HasPath entry path → ⊥)
IsFirstCode of entry code.MissingValue = (w : Word) × (path : List (List ℕ)) × HasWord entry w × HasPath entry path
    × ((change : Change) → w ≡ change_word change → HasValue entry change → ⊥)
IsFirstCode of entry code.Protected = (change : Change) × (path : List (List ℕ)) × HasWord entry (change_word change) × HasPath entry path
    × HasValue entry change × IsProtected of (change_word change) path
IsFirstCode of entry code.NotAMark = ⊥
IsFirstCode of entry code.NoTarget = ⊥

-- What is answered of one entry.
abbrev pub AnswersEntry : PatchOf → Json → Result Op OpEnd → Type 0
AnswersEntry of entry (Ok op) = IsOperation of entry (operation_of op)
AnswersEntry of entry (Err (judged.Code c)) = IsFirstCode of entry c
AnswersEntry of entry (Err judged.OutOfMemory) = Unit {0}

-- The entries are these operations.
abbrev pub AreOperations : PatchOf → Elements Number → List Operation → Type 0
AreOperations of no_elements os = os ≡ []
AreOperations of (element entry entries) os = (o : Operation) × (rest : List Operation) × (os ≡ o ∷ rest) × IsOperation of entry o × AreOperations of entries rest

-- The first entry that is no operation stands at this index, with this code first.
abbrev pub FailsAt : PatchOf → Elements Number → ℕ → PatchCode → Type 0
FailsAt of no_elements index c = ⊥
FailsAt of (element entry entries) zero c = IsFirstCode of entry c
FailsAt of (element entry entries) (suc index) c = ((o : Operation) × IsOperation of entry o) × FailsAt of entries index c

abbrev pub IsJsonTruth : Json → Type 0
IsJsonTruth null = ⊥
IsJsonTruth (truth b) = Unit {0}
IsJsonTruth (number n) = ⊥
IsJsonTruth (text bytes) = ⊥
IsJsonTruth (array vs) = ⊥
IsJsonTruth (object ms) = ⊥

abbrev pub SetsTruth : Change → Type 0
SetsTruth (add v) = IsJsonTruth v
SetsTruth (replace v) = IsJsonTruth v
SetsTruth remove = ⊥

-- The patch of a model is one `add` or `replace` of `/decommissioned` with a truth value.
abbrev pub IsMark : List Operation → Type 0
IsMark os = (o : Operation) × (os ≡ o ∷ []) × (o.path ≡ codes "decommissioned" ∷ []) × SetsTruth o.change

abbrev pub IsFitFor : PatchOf → List Operation → Type 0
IsFitFor target.Model os = IsMark os
IsFitFor target.Twin os = Unit {0}
IsFitFor target.Part os = Unit {0}
IsFitFor target.Rel os = Unit {0}

-- The value is a patch of these operations.
abbrev pub IsPatch : PatchOf → Json → List Operation → Type 0
IsPatch of v os = (entries : Elements Number) × (v ≡ array entries) × AreOperations of entries os × IsFitFor of os

abbrev pub IsJsonArray : Json → Type 0
IsJsonArray v = (entries : Elements Number) × (v ≡ array entries)

-- The least fault of a value that is no patch: by index, then in the order of the codes; `NotAMark` comes last of all.
abbrev pub IsPatchFault : PatchOf → Json → ℕ → PatchCode → Type 0
IsPatchFault of v index c =
    ((IsJsonArray v → ⊥) × (index ≡ 0) × (c ≡ code.NotAList))
    ⊎ ((entries : Elements Number) × (v ≡ array entries) × FailsAt of entries index c)
    ⊎ ((entries : Elements Number) × (os : List Operation) × (v ≡ array entries) × AreOperations of entries os × (IsFitFor of os → ⊥) × (index ≡ 0) × (c ≡ code.NotAMark))

-- What `read_patch` answers.
abbrev pub ReadsPatch : PatchOf → Json → Result Patch PatchEnd → Type 0
ReadsPatch of v (Ok patch) = IsPatch of v (operations_of patch.ops)
ReadsPatch of v (Err (ends.Fault index c)) = IsPatchFault of v index c
ReadsPatch of v (Err ends.OutOfMemory) = Unit {0}

-- The answers on the entries alone, and on one of them.
abbrev pub ReadsOps : PatchOf → Elements Number → Result (List Op) PatchEnd → Type 0
ReadsOps of entries (Ok ops) = AreOperations of entries (operations_of ops)
ReadsOps of entries (Err (ends.Fault index c)) = FailsAt of entries index c
ReadsOps of entries (Err ends.OutOfMemory) = Unit {0}

abbrev pub end_at : ℕ → OpEnd → PatchEnd
end_at index (judged.Code c) = ends.Fault index c
end_at index judged.OutOfMemory = ends.OutOfMemory

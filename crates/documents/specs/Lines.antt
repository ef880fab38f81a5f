-- The lines that name a fault of documents, which are counted from 1.
use Rattle.std.specs.Prelude.{◌≡◌, ℕ, List, [], ◌∷◌, ◌++◌, codes, slice_get, Some}
use Rattle.std.specs.Fmt.{decimal}
use Rattle.json_tree.specs.Values.{Json, Raw, text}
use Rattle.json_tree.specs.Grammar.{IsText}
use Rattle.json_read.specs.Faults.{IsFault}
use Rattle.json_tree.specs.Pointers.{IsPointerOf}
use Rattle.json_tree.specs.Printing.{printed}
use Rattle.json_tree.specs.declared.places.Place.{Place}
use Rattle.json_read.specs.declared.fault.JsonFault.{JsonFault}
use Rattle.json_read.specs.declared.fault.JsonFault.TheVariants as faults
use Rattle.local_rules.specs.Codes.{rule_code}
use Rattle.local_rules.specs.Breaches.{IsFirstBreach}
use Rattle.local_rules.specs.declared.rule.LocalRule.{LocalRule}
use Rattle.dtdl_terms.specs.Spots.{spot_text}
use Rattle.dtdl_terms.specs.declared.uploaded.Uploaded.{Uploaded}
use Rattle.extend_resolve.specs.Breaches.{Breach, IsFirstSetBreach, set_rule_code}

-- `refused`, the number of a document, a pointer as a JSON text, and a code.
abbrev pub pointer_line : ℕ → List ℕ → List ℕ → List ℕ
pointer_line number pointer code = codes "refused " ++ (decimal number ++ 32 ∷ (printed (text pointer) ++ 32 ∷ (code ++ 10 ∷ [])))

-- The same with the position of a byte.
abbrev pub byte_line : ℕ → ℕ → List ℕ → List ℕ
byte_line number at code = codes "refused " ++ (decimal number ++ (codes " byte " ++ (decimal at ++ 32 ∷ (code ++ 10 ∷ []))))

-- The line with the pointer to the place and a code.
abbrev pub IsPlaceLine : ℕ → List ℕ → Place → List ℕ → List ℕ → Type 0
IsPlaceLine number bytes place code line = (raw : Raw) × (pointer : List ℕ) × IsText bytes raw × IsPointerOf raw place.steps pointer
    × (line ≡ pointer_line number pointer code)

-- The line that names a fault of a document.
abbrev pub IsFaultLine : ℕ → List ℕ → JsonFault → List ℕ → Type 0
IsFaultLine number bytes (faults.Byte at) line = line ≡ byte_line number at (codes "Byte")
IsFaultLine number bytes (faults.Ends at) line = line ≡ byte_line number at (codes "Ends")
IsFaultLine number bytes (faults.Duplicate place) line = IsPlaceLine number bytes place (codes "Duplicate") line
IsFaultLine number bytes (faults.Range place) line = IsPlaceLine number bytes place (codes "Range") line
IsFaultLine number bytes faults.OutOfMemory line = ⊥

-- The line names the one fault that the bytes of a document have as a JSON text.
abbrev pub IsJsonFaultLine : ℕ → List ℕ → List ℕ → Type 0
IsJsonFaultLine number bytes line = (fault : JsonFault) × IsFault bytes fault × IsFaultLine number bytes fault line

-- The line names the first local rule that a document breaks, by the pointer to its place and its code.
abbrev pub IsBreachLine : ℕ → Json → List ℕ → Type 0
IsBreachLine number v line = (place : List ℕ) × (broken : LocalRule) × (pointer : List ℕ) × IsFirstBreach v place broken × IsPointerOf v place pointer
    × (line ≡ pointer_line number pointer (rule_code broken))

-- The line names the first rule on sets that these interfaces break, by the document of the interface and the pointer to its place.
abbrev pub IsSetBreachLine : List Uploaded → List ℕ → Type 0
IsSetBreachLine uploads line = (b : Breach) × (u : Uploaded) × IsFirstSetBreach [] uploads b × (slice_get uploads b.index ≡ Some u)
    × (line ≡ pointer_line u.document (u.base ++ spot_text u.parents_as_text b.spot) (set_rule_code b.rule))

-- What a command over documents answers: a status and the line or text that is written, by the words and what is found of
-- the documents.
use Rattle.std.specs.Prelude.{◌≡◌, ℕ, ◌<◌, ◌≤◌, ◌⊎◌, List, length, map, Option, String}
use Rattle.std.specs.declared.alloc.Global.{Global}
use Rattle.dtdl_terms.specs.declared.interface.Interface.{Interface}
use Rattle.dtdl_terms.specs.declared.uploaded.Uploaded.{Uploaded}
use Rattle.canon_text.specs.Canonical.{set_text}
use Rattle.dtdl_cmd.specs.Words.{AreNone, IsCommand}
use Rattle.dtdl_cmd.specs.Documents.{AreAllFound, IsMissing, AreTooLong, MAX_BYTES}
use Rattle.documents.specs.FirstFaults.{Declare, HasFirstFault}
use Rattle.dtdl_cmd.specs.Lines.{accepted_line, missing_line, too_long_line, too_long_text_line, usage_line}
use Rattle.dtdl_cmd.specs.declared.command.Command.{Command}
use Rattle.dtdl_cmd.specs.declared.command.Command.TheVariants as commands
use Rattle.dtdl_cmd.specs.declared.status.Status.{Status}
use Rattle.dtdl_cmd.specs.declared.status.Status.TheVariants as status

abbrev pub status_number : Status → ℕ
status_number status.Ok = 0
status_number status.Refused = 1
status_number status.Usage = 2
status_number status.ReadFault = 3
status_number status.WriteFault = 4
status_number status.OutOfMemory = 5
status_number status.TooLong = 6
status_number status.Missing = 7
status_number status.SessionFull = 8
status_number status.DialFault = 10
status_number status.BadReply = 11

-- the interfaces that were uploaded, without their places
abbrev pub uploaded_interfaces : List Uploaded → List Interface
uploaded_interfaces uploads = map (λ u. u.interface) uploads

-- What a command prints of interfaces that break no rule: how many there are, or their canonical text within its limit.
abbrev pub Prints : Command → List Interface → Status → List ℕ → Type 0
Prints commands.Check is s line = (s ≡ status.Ok) × (line ≡ accepted_line (length is))
Prints commands.Canon is s line = ((s ≡ status.Ok) × (length (set_text is) ≤ MAX_BYTES) × (line ≡ set_text is))
    ⊎ ((s ≡ status.TooLong) × (MAX_BYTES < length (set_text is)) × (line ≡ too_long_text_line))

-- To documents: the line of their first fault, or what the command makes of the interfaces that they declare.
abbrev pub AnswersDocuments : Command → List (List ℕ) → Status → List ℕ → Type 0
AnswersDocuments command documents s line = ((s ≡ status.Refused) × HasFirstFault documents line)
    ⊎ ((uploads : List Uploaded) × Declare documents uploads × Prints command (uploaded_interfaces uploads) s line)

-- To what is found: the first document that is missing, or with which the limit is passed, comes before every fault.
abbrev pub AnswersFound : Command → List (Option (List ℕ)) → Status → List ℕ → Type 0
AnswersFound command found s line = ((s ≡ status.Missing) × ((number : ℕ) × IsMissing found number × (line ≡ missing_line number)))
    ⊎ ((s ≡ status.TooLong) × ((number : ℕ) × AreTooLong found number × (line ≡ too_long_line number)))
    ⊎ ((documents : List (List ℕ)) × AreAllFound found documents × AnswersDocuments command documents s line)

-- To the words, and to what is found of the documents that they name.
abbrev pub AnswersWords : List (String Global) → List (Option (List ℕ)) → Status → List ℕ → Type 0
AnswersWords words found s line = ((s ≡ status.Usage) × AreNone words × (line ≡ usage_line))
    ⊎ ((command : Command) × (names : List (List ℕ)) × IsCommand words command names × AnswersFound command found s line)

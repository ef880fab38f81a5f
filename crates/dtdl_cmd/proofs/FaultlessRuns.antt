-- Where no count of faults rose a run ends with the answer that there is, or for want of memory.
use Rattle.std.proofs.Common.{◌≡◌, ◌⊎◌, ℕ, List, [], ◌∷◌, Option, Some, String, map, refl, sym, ap, ◌∙◌, subst, inl, inr}
use Rattle.std.specs.declared.alloc.Global.{Global}
use Rattle.std.specs.Io.KnownBytes.{Appends}
use Rattle.dt_base.specs.Faults.{Rose}
use Rattle.dt_base.specs.Files.{file_named}
use Rattle.http_session.specs.Uniqueness.{IsDecided as EndIsDecided}
use Rattle.http_session.specs.declared.ends.SessionEnd.{SessionEnd}
use Rattle.http_session.specs.declared.ends.SessionEnd.TheVariants as ends
use Rattle.graph_server.specs.Replays.{IsReplay, OneReplay}
use Rattle.dtdl_cmd.specs.making.Made.{IsMade}
use Rattle.dtdl_cmd.specs.Words.{AreMake, AreNone, AreReplay, IsCommand}
use Rattle.dtdl_cmd.specs.Documents.{AreFound, ShelfChange, StreamChange}
use Rattle.dtdl_cmd.specs.Lines.{usage_line}
use Rattle.dtdl_cmd.specs.Answers.{AnswersFound, AnswersWords}
use Rattle.dtdl_cmd.specs.Runs.{AnswersInput, EndsAnswer, EndsMake, EndsReplay, HasReadFault, RunEnds, exit_status}
use Rattle.dtdl_cmd.specs.FaultlessRuns.{EndsWith, TakesAll, TellsDocuments}
use Rattle.dtdl_cmd.specs.declared.command.Command.{Command}
use Rattle.dtdl_cmd.specs.declared.status.Status.{Status}
use Rattle.dtdl_cmd.specs.declared.status.Status.TheVariants as status
use Rattle.dtdl_cmd.proofs.OneInput.{one_input}
use Rattle.dtdl_cmd.proofs.OneReplay.{known, replayed}
use Rattle.dtdl_cmd.proofs.OneMake.{make_ends}
use Rattle.dtdl_cmd.proofs.OtherWords.{makes_no_documents, replays_no_documents}

-- ---- documents that are told are the ones that are found
-- without names the shelf does not matter, nor with names the source
found_alone : (input : StreamChange) (shelf : ShelfChange) (all : List ℕ) (found : List (Option (List ℕ)))
    → input.before ≡ Some all → AreFound input shelf [] found → found ≡ Some all ∷ []
found_alone input shelf all found told are =
    let files : ShelfChange = record { before = Some []; after = Some []; faults_before = 0; faults_after = 0 } in
    one_input input files [] all [] found told refl are

found_named : (input : StreamChange) (shelf : ShelfChange) (name : List ℕ) (names : List (List ℕ)) (files : List (List ℕ × List ℕ)) (found : List (Option (List ℕ)))
    → shelf.before ≡ Some files → AreFound input shelf (name ∷ names) found → found ≡ map (file_named files) (name ∷ names)
found_named input shelf name names files found told are =
    let stream : StreamChange = record { before = Some []; after = Some []; faults_before = 0; faults_after = 0 } in
    one_input stream shelf (name ∷ names) [] files found refl told are

same_found : (input : StreamChange) (shelf : ShelfChange) (names : List (List ℕ)) (found other : List (Option (List ℕ)))
    → TellsDocuments input shelf names found → AreFound input shelf names other → other ≡ found
same_found input shelf [] found other (all, told, is) are = found_alone input shelf all other told are ∙ sym is
same_found input shelf (name ∷ names) found other (files, told, is) are = found_named input shelf name names files other told are ∙ sym is

same_names : (words : List (String Global)) (command other : Command) (names more : List (List ℕ)) → IsCommand words command names → IsCommand words other more → names ≡ more
same_names words command other names more is has = tails _ _ _ _ (sym is.0 ∙ has.0)
  where
    tails : (w v : List ℕ) (ws vs : List (List ℕ)) → w ∷ ws ≡ v ∷ vs → ws ≡ vs
    tails w v ws vs e = cc

-- ---- commands over documents
-- as the contract of `one_answer` says
abbrev OneAnswer : Type 0
OneAnswer = (words : List (String Global)) (found : List (Option (List ℕ))) (line text : List ℕ) (s t : Status)
    → AnswersWords words found s line → AnswersWords words found t text → (s ≡ t) × (line ≡ text)

module _ (one_answer : OneAnswer) (words : List (String Global)) (command : Command) (names : List (List ℕ)) (are : IsCommand words command names) where
  module _ (input : StreamChange) (shelf : ShelfChange) (output : StreamChange) (found : List (Option (List ℕ))) (told : TellsDocuments input shelf names found)
      (read : HasReadFault input shelf names → ⊥) (taken : TakesAll output) where
    answered : (answer s : Status) (line text : List ℕ) → AnswersFound command found answer line → AnswersInput words input shelf s text → (s ≡ answer) × (text ≡ line)
    answered answer s line text answers h =
        one_answer words found text line s answer
        (subst (λ (f : List (Option (List ℕ))). AnswersWords words f s text) (same_found input shelf names found h.found told (h.held command names are)) h.answers)
        (inr (command, names, are, answers))

    ended : (answer s : Status) (line : List ℕ) → AnswersFound command found answer line → EndsAnswer words input shelf output s → EndsWith output answer line s
    ended answer s line answers (inl (text, h, appended)) =
        let same = answered answer s line text answers h in
        inl (same.0, subst (λ (bytes : List ℕ). Appends output.before output.after bytes) same.1 appended)
    ended answer s line answers (inr (inl (is, rose, h))) = absurd (taken rose)
    ended answer s line answers (inr (inr (inl (is, (other, more, has, fault), kept)))) =
        absurd (read (subst (λ (ns : List (List ℕ)). HasReadFault input shelf ns) (same_names words other command more names has are) fault))
    ended answer s line answers (inr (inr (inr (is, some, kept)))) = inr (is, kept)

    pub ends_with : (answer s : Status) (line : List ℕ) → AnswersFound command found answer line → RunEnds words input shelf output s → EndsWith output answer line s
    ends_with answer s line answers (inl h) = ended answer s line answers h
    ends_with answer s line answers (inr (inl (replays, h))) = absurd (replays_no_documents words replays command names are)
    ends_with answer s line answers (inr (inr (n, makes, h))) = absurd (makes_no_documents words n makes command names are)

-- ---- words that are no command
usage_answered : (words : List (String Global)) (none : AreNone words) (found : List (Option (List ℕ))) (s : Status) (line : List ℕ) → AnswersWords words found s line
    → (s ≡ status.Usage) × (line ≡ usage_line)
usage_answered words none found s line (inl (is, nothing, e)) = (is, e)
usage_answered words none found s line (inr (command, names, is, h)) = absurd (none.0 (command, names, is))

pub usage_ends : (words : List (String Global)) (input : StreamChange) (shelf : ShelfChange) (output : StreamChange) (s : Status) → AreNone words → TakesAll output
    → RunEnds words input shelf output s → (s ≡ status.Usage) × Appends output.before output.after usage_line
usage_ends words input shelf output s none taken (inl (inl (line, h, appended))) =
    let same = usage_answered words none h.found s line h.answers in
    (same.0, subst (λ (bytes : List ℕ). Appends output.before output.after bytes) same.1 appended)
usage_ends words input shelf output s none taken (inl (inr (inl (is, rose, h)))) = absurd (taken rose)
usage_ends words input shelf output s none taken (inl (inr (inr (inl (is, (command, names, are, fault), kept))))) = absurd (none.0 (command, names, are))
usage_ends words input shelf output s none taken (inl (inr (inr (inr (is, some, kept))))) = absurd (none.0 some)
usage_ends words input shelf output s none taken (inr (inl (replays, h))) = absurd (none.1 replays)
usage_ends words input shelf output s none taken (inr (inr (n, makes, h))) = absurd (none.2 n makes)

-- ---- replays
module _ (law : OneReplay) (input output : StreamChange) (s : Status) (all : List ℕ) (told : input.before ≡ Some all) where
  decided_ends : (left : Option (List ℕ)) (end : SessionEnd) (out : List ℕ) → EndIsDecided end → IsReplay (Unit {0}) end (Some all) left out
      → (h : EndsReplay input output s) → EndIsDecided h.end → ((s ≡ exit_status end) × Appends output.before output.after out) ⊎ (s ≡ status.OutOfMemory)
  decided_ends left end out done there h also =
      let same = law all input.after left h.end end h.out out (known input output s all h told) there also done in
      inl (h.status ∙ ap exit_status same.0, subst (λ (bytes : List ℕ). Appends output.before output.after bytes) same.2 h.appended)

  by_end : (left : Option (List ℕ)) (end : SessionEnd) (out : List ℕ) → EndIsDecided end → IsReplay (Unit {0}) end (Some all) left out
      → (Rose input.faults_before input.faults_after → ⊥) → TakesAll output → (h : EndsReplay input output s) → (e : SessionEnd) → h.end ≡ e
      → ((s ≡ exit_status end) × Appends output.before output.after out) ⊎ (s ≡ status.OutOfMemory)
  by_end left end out done there read taken h ends.Closed e = decided_ends left end out done there h (subst EndIsDecided (sym e) tt)
  by_end left end out done there read taken h ends.Refused e = decided_ends left end out done there h (subst EndIsDecided (sym e) tt)
  by_end left end out done there read taken h ends.Full e = decided_ends left end out done there h (subst EndIsDecided (sym e) tt)
  by_end left end out done there read taken h ends.ReadFault e = absurd (read (h.read_cause e))
  by_end left end out done there read taken h ends.WriteFault e = absurd (taken (h.write_cause e))
  by_end left end out done there read taken h ends.OutOfMemory e = inr (h.status ∙ ap exit_status e)

pub replay_ends : OneReplay → (words : List (String Global)) (input : StreamChange) (shelf : ShelfChange) (output : StreamChange) (all out : List ℕ) (left : Option (List ℕ))
    (end : SessionEnd) (s : Status) → AreReplay words → input.before ≡ Some all → IsReplay (Unit {0}) end (Some all) left out → EndIsDecided end
    → (Rose input.faults_before input.faults_after → ⊥) → TakesAll output → RunEnds words input shelf output s
    → ((s ≡ exit_status end) × Appends output.before output.after out) ⊎ (s ≡ status.OutOfMemory)
replay_ends law words input shelf output all out left end s replays told there done read taken ran =
    let h = replayed words input shelf output s replays ran in
    by_end law input output s all told left end out done there read taken h h.end refl

-- ---- graphs that are made
module _ (law : (n : ℕ) (text other : List ℕ) → IsMade n text → IsMade n other → text ≡ other) (n : ℕ) (text : List ℕ) (is : IsMade n text) where
  made : (output : StreamChange) (s : Status) → TakesAll output → EndsMake n output s → EndsWith output status.Ok text s
  made output s taken (inl (ok, (other, has, appended))) =
      inl (ok, subst (λ (bytes : List ℕ). Appends output.before output.after bytes) (law n other text has is) appended)
  made output s taken (inr (inl (fault, rose, h))) = absurd (taken rose)
  made output s taken (inr (inr h)) = inr h

  pub make_completes : (words : List (String Global)) (input : StreamChange) (shelf : ShelfChange) (output : StreamChange) (s : Status) → AreMake words n → TakesAll output
      → RunEnds words input shelf output s → EndsWith output status.Ok text s
  make_completes words input shelf output s makes taken ran = made output s taken (make_ends words input shelf output n s makes ran)

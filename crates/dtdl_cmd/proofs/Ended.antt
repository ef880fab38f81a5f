-- From an answer, and how it was written, to how a run ends.
use Rattle.std.proofs.Common.{◌≡◌, ◌⊎◌, ℕ, zero, suc, ◌-◌, drop, ◌<◌, ◌≤◌, List, [], ◌∷◌, Option, Some, String, length, map, take, refl, sym, ap, subst, ◌∙◌, inl, inr, arith}
use Rattle.std.specs.Prelude.{string_bytes}
use Rattle.std.proofs.lemmas.List.{length-map}
use Rattle.std.proofs.lemmas.Slice.Zip.{AllZip-long}
use Rattle.std.proofs.Math.Seq.{take-nil}
use Rattle.std.specs.declared.alloc.Global.{Global}
use Rattle.std.specs.Io.KnownBytes.{Appends}
use Rattle.dt_base.specs.Faults.{Rose}
use Rattle.dtdl_cmd.specs.Words.{AreCommand, AreMake, AreReplay, IsCommand, command_word}
use Rattle.dtdl_cmd.specs.Documents.{AreFound, HasUnder, ShelfChange, StreamChange}
use Rattle.dtdl_cmd.specs.Lines.{usage_line}
use Rattle.dtdl_cmd.specs.Answers.{AnswersFound}
use Rattle.dtdl_cmd.specs.Runs.{AnswersInput, BreaksOff, EndsAnswer}
use Rattle.dtdl_cmd.specs.declared.command.Command.{Command}
use Rattle.dtdl_cmd.specs.declared.status.Status.{Status}
use Rattle.dtdl_cmd.specs.declared.status.Status.TheVariants as status

-- the answer was written, or a proper prefix of it
pub said : (words : List (String Global)) (input : StreamChange) (shelf : ShelfChange) (output : StreamChange) (s result : Status) (line : List ℕ) → AnswersInput words input shelf s line
    → ((result ≡ s) × Appends output.before output.after line)
    ⊎ ((result ≡ status.WriteFault) × Rose output.faults_before output.faults_after
    × ((written : ℕ) × (written < length line) × Appends output.before output.after (take written line)))
    → EndsAnswer words input shelf output result
said words input shelf output s result line answers (inl h) = subst (λ (r : Status). EndsAnswer words input shelf output r) (sym h.0) (inl (line, answers, h.1))
said words input shelf output s result line answers (inr h) =
    let broken : BreaksOff words input shelf output = record { answered = s; line = line; written = h.2.0; proper = h.2.1; answers = answers; appended = h.2.2 } in
    inr (inl (h.0, h.1, broken))

pub no_command : (words : List (String Global)) (input : StreamChange) (shelf : ShelfChange) → ((command : Command) (names : List (List ℕ)) → IsCommand words command names → ⊥) → (AreReplay words → ⊥)
    → ((n : ℕ) → AreMake words n → ⊥) → AnswersInput words input shelf status.Usage usage_line
no_command words input shelf none other nor =
    let not : AreCommand words → ⊥ = λ h. none h.0 h.1 h.2 in
    record { found = []; held = λ command names is. absurd (none command names is); answers = inl (refl, (not, other, nor), refl) }

same_names : (w v : List ℕ) (names more : List (List ℕ)) → w ∷ names ≡ v ∷ more → names ≡ more
same_names w v names more e = cc

pub answered : (words : List (String Global)) (input : StreamChange) (shelf : ShelfChange) (command : Command) (names : List (List ℕ)) (s : Status) (line : List ℕ) → IsCommand words command names
    → (found : List (Option (List ℕ))) × AreFound input shelf names found × AnswersFound command found s line → AnswersInput words input shelf s line
answered words input shelf command names s line is h =
    record {
      found = h.0;
      held = λ other more has.
          let same : names ≡ more = same_names (command_word command) (command_word other) names more (sym is.0 ∙ has.0) in
          subst (λ (ns : List (List ℕ)). AreFound input shelf ns h.0) same h.1;
      answers = inr (command, names, is, h.2);
    }

-- as many documents as names, and one without names
pub few_documents : (input : StreamChange) (shelf : ShelfChange) (names documents : List (List ℕ)) → AreFound input shelf names (map Some documents) → length names ≤ 4096 → length documents ≤ 4096
few_documents input shelf [] documents (bytes, is, held) few =
    let long : length (map (λ (b : List ℕ). Some b) documents) ≡ 1 = ap length is in
    let same = length-map documents (λ (b : List ℕ). Some b) in
    omega (arith, long, same)
few_documents input shelf (name ∷ names) documents have few =
    let long = AllZip-long (HasUnder shelf.before) (name ∷ names) (map (λ (b : List ℕ). Some b) documents) have in
    let same = length-map documents (λ (b : List ℕ). Some b) in
    omega (arith, long, same, few)

-- a command that is none with names has none
pub none_named : (words rest : List (String Global)) (command : Command) → IsCommand words command (map string_bytes rest)
    → ((c : Command) (name : List ℕ) (names : List (List ℕ)) → IsCommand words c (name ∷ names) → ⊥) → rest ≡ []
none_named words [] command is none = refl
none_named words (r ∷ rs) command is none = absurd (none command (string_bytes r) (map string_bytes rs) is)

-- the words behind the first are a slice of them
taken_whole : {A : Type 0} (n : ℕ) (xs : List A) → length xs ≤ n → take n xs ≡ xs
taken_whole n [] le = take-nil n
taken_whole zero (x ∷ xs) le = absurd (omega (arith, le))
taken_whole (suc n) (x ∷ xs) le =
    let less : length xs ≤ n = omega (arith, le) in
    ap (λ ys. x ∷ ys) (taken_whole n xs less)

pub rest_whole : {A : Type 0} (xs : List A) → take (length xs - 1) (drop 1 xs) ≡ drop 1 xs
rest_whole [] = take-nil (0 - 1)
rest_whole (x ∷ xs) =
    let le : length xs ≤ length (x ∷ xs) - 1 = omega arith in
    taken_whole (length (x ∷ xs) - 1) xs le

-- There is an answer to words and to what is found of the documents.
use Rattle.std.proofs.Common.{◌≡◌, ◌⊎◌, ℕ, ◌+◌, ◌≤◌, List, [], ◌∷◌, ◌++◌, Option, Some, None, String, length, map, refl, ap, ◌∙◌, subst, inl, inr, arith}
use Rattle.std.proofs.lemmas.Bool.{cases_lt}
use Rattle.std.proofs.lemmas.List.{append-nil}
use Rattle.std.specs.declared.alloc.Global.{Global}
use Rattle.dt_base.specs.Existence.{IsThere}
use Rattle.dt_base.proofs.Existence.{is_there, holds_or_not, from_there, map_there}
use Rattle.dtdl_terms.specs.declared.interface.Interface.{Interface}
use Rattle.dtdl_terms.specs.declared.uploaded.Uploaded.{Uploaded}
use Rattle.canon_text.specs.Canonical.{set_text}
use Rattle.documents.specs.FirstFaults.{Declare, HasFirstFault}
use Rattle.dtdl_cmd.specs.Words.{AreCommand, AreMake, AreReplay}
use Rattle.dtdl_cmd.specs.Documents.{MAX_BYTES, documents_bytes}
use Rattle.dtdl_cmd.specs.Lines.{accepted_line, missing_line, too_long_line, too_long_text_line, usage_line}
use Rattle.dtdl_cmd.specs.Answers.{AnswersDocuments, AnswersFound, AnswersWords, Prints, uploaded_interfaces}
use Rattle.dtdl_cmd.specs.declared.command.Command.{Command}
use Rattle.dtdl_cmd.specs.declared.command.Command.TheVariants as commands
use Rattle.dtdl_cmd.specs.declared.status.Status.{Status}
use Rattle.dtdl_cmd.specs.declared.status.Status.TheVariants as status
use Rattle.dtdl_cmd.proofs.OneCut.{Stops, total_front}

-- ---- what is found: documents that are there, and what stops them
record Cut (sum : ℕ) (found : List (Option (List ℕ))) : Type 0 where
  before : List (List ℕ)
  rest : List (Option (List ℕ))
  is : found ≡ map Some before ++ rest
  within : sum + documents_bytes before ≤ MAX_BYTES
  stops : Stops (sum + documents_bytes before) rest

one_longer : (sum : ℕ) (bytes : List ℕ) (after : List (Option (List ℕ))) → Cut (sum + length bytes) after → Cut sum (Some bytes ∷ after)
one_longer sum bytes after c =
    let front = total_front bytes c.before in
    let same : sum + length bytes + documents_bytes c.before ≡ sum + documents_bytes (bytes ∷ c.before) = omega (arith, front) in
    record {
      before = bytes ∷ c.before;
      rest = c.rest;
      is = ap (λ (xs : List (Option (List ℕ))). Some bytes ∷ xs) c.is;
      within = subst (λ (n : ℕ). n ≤ MAX_BYTES) same c.within;
      stops = subst (λ (n : ℕ). Stops n c.rest) same c.stops;
    }

no_bytes : (sum : ℕ) → sum ≡ sum + documents_bytes []
no_bytes sum = let none : documents_bytes [] ≡ 0 = refl in omega (arith, none)

cut_here : (sum : ℕ) (found : List (Option (List ℕ))) → sum ≤ MAX_BYTES → Stops sum found → Cut sum found
cut_here sum found within stops = record {
  before = [];
  rest = found;
  is = refl;
  within = subst (λ (n : ℕ). n ≤ MAX_BYTES) (no_bytes sum) within;
  stops = subst (λ (n : ℕ). Stops n found) (no_bytes sum) stops;
}

cut : (sum : ℕ) (found : List (Option (List ℕ))) → sum ≤ MAX_BYTES → Cut sum found
cut sum [] within = cut_here sum [] within tt
cut sum (None ∷ after) within = cut_here sum (None ∷ after) within tt
cut sum (Some bytes ∷ after) within = elim (cases_lt MAX_BYTES (sum + length bytes)) [
  | inl past ↦ cut_here sum (Some bytes ∷ after) within past
  | inr room ↦ one_longer sum bytes after (cut (sum + length bytes) after room)
]

-- ---- an answer
abbrev DeclareOrFault : Type 0
DeclareOrFault = (documents : List (List ℕ)) → IsThere (((us : List Uploaded) × Declare documents us) ⊎ ((line : List ℕ) × HasFirstFault documents line))

abbrev Answered : (Status → List ℕ → Type 0) → Type 0
Answered Answers = (s : Status) × (line : List ℕ) × Answers s line

printed : (command : Command) (is : List Interface) → Answered (Prints command is)
printed commands.Check is = (status.Ok, accepted_line (length is), (refl, refl))
printed commands.Canon is = elim (cases_lt MAX_BYTES (length (set_text is))) [
  | inl longer ↦ (status.TooLong, too_long_text_line, inr (refl, longer, refl))
  | inr within ↦ (status.Ok, set_text is, inl (refl, within, refl))
]

module _ (judged : DeclareOrFault) (command : Command) where
  documents_answered : (documents : List (List ℕ)) → IsThere (Answered (AnswersDocuments command documents))
  documents_answered documents =
      map_there (λ (either : ((us : List Uploaded) × Declare documents us) ⊎ ((line : List ℕ) × HasFirstFault documents line)). elim either [
        | inl d ↦ (let p = printed command (uploaded_interfaces d.0) in (p.0, p.1, inr (d.0, d.1, p.2)))
        | inr l ↦ (status.Refused, l.0, inl (refl, l.1))
      ]) (judged documents)

  by_rest : (found : List (Option (List ℕ))) (before : List (List ℕ)) (rest : List (Option (List ℕ))) → found ≡ map Some before ++ rest
      → documents_bytes before ≤ MAX_BYTES → Stops (documents_bytes before) rest → IsThere (Answered (AnswersFound command found))
  by_rest found before [] is within stops =
      map_there (λ (a : Answered (AnswersDocuments command before)).
      (a.0, a.1, inr (inr (before, (is ∙ append-nil (map Some before), within), a.2)))) (documents_answered before)
  by_rest found before (None ∷ after) is within stops =
      let number = length before + 1 in
      is_there (status.Missing, missing_line number, inl (refl, (number, (before, after, is, within, refl), refl)))
  by_rest found before (Some bytes ∷ after) is within stops =
      let number = length before + 1 in
      is_there (status.TooLong, too_long_line number, inr (inl (refl, (number, (before, bytes, after, is, within, stops, refl), refl))))

  found_answered : (found : List (Option (List ℕ))) → IsThere (Answered (AnswersFound command found))
  found_answered found =
      let c : Cut 0 found = cut 0 found (omega arith) in
      let same : 0 + documents_bytes c.before ≡ documents_bytes c.before = omega arith in
      by_rest found c.before c.rest c.is (subst (λ (n : ℕ). n ≤ MAX_BYTES) same c.within) (subst (λ (n : ℕ). Stops n c.rest) same c.stops)

pub some_answer : DeclareOrFault → (words : List (String Global)) (found : List (Option (List ℕ))) → (AreReplay words → ⊥) → ((n : ℕ) → AreMake words n → ⊥)
    → IsThere ((s : Status) × (line : List ℕ) × AnswersWords words found s line)
some_answer judged words found replay make = from_there (holds_or_not (AreCommand words)) (λ (some : AreCommand words ⊎ (AreCommand words → ⊥)). elim some [
  | inl are ↦ map_there (λ (a : Answered (AnswersFound are.0 found)). (a.0, a.1, inr (are.0, are.1, are.2, a.2))) (found_answered judged are.0 found)
  | inr none ↦ is_there (status.Usage, usage_line, inl (refl, (none, replay, make), refl))
])

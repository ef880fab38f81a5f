-- The words of a replay and of a graph that is made are those of no other command.
use Rattle.std.proofs.Common.{◌≡◌, ℕ, List, [], ◌∷◌, Option, String, get_or, sym, ap, subst, ◌∙◌, inl, inr, arith}
use Rattle.std.specs.Prelude.{codes}
use Rattle.std.specs.declared.alloc.Global.{Global}
use Rattle.dtdl_cmd.specs.Words.{AreMake, AreNone, AreReplay, IsCommand, IsNumberUpTo, command_word}
use Rattle.dtdl_cmd.specs.Documents.{ShelfChange, StreamChange}
use Rattle.dtdl_cmd.specs.Answers.{AnswersWords}
use Rattle.dtdl_cmd.specs.Runs.{EndsAnswer}
use Rattle.dtdl_cmd.specs.declared.command.Command.{Command}
use Rattle.dtdl_cmd.specs.declared.command.Command.TheVariants as commands
use Rattle.dtdl_cmd.specs.declared.status.Status.{Status}
use Rattle.dtdl_cmd.proofs.Numbers.{same_number}

-- ---- the words of commands over documents begin with another letter
first_letter : List (List ℕ) → ℕ
first_letter ws = get_or (get_or ws 0 []) 0 0

with_c : (command : Command) (names words : List (List ℕ)) → command_word command ∷ names ≡ words → first_letter words ≡ 99
unfolding first_letter
with_c commands.Check names words e = sym (ap first_letter e)
with_c commands.Canon names words e = sym (ap first_letter e)

pub replays_no_documents : (words : List (String Global)) → AreReplay words → (command : Command) (names : List (List ℕ)) → IsCommand words command names → ⊥
unfolding first_letter
replays_no_documents words replays command names is =
    let letters : 114 ≡ 99 = with_c command names (codes "replay" ∷ []) (sym is.0 ∙ replays) in
    omega (arith, letters)

pub makes_no_documents : (words : List (String Global)) (n : ℕ) → AreMake words n → (command : Command) (names : List (List ℕ)) → IsCommand words command names → ⊥
unfolding first_letter
makes_no_documents words n (word, are, rooms) command names is =
    let letters : 109 ≡ 99 = with_c command names (codes "make" ∷ word ∷ []) (sym is.0 ∙ are) in
    omega (arith, letters)

-- ---- one word or two
not_both : (a b c : List ℕ) → a ∷ [] ≡ b ∷ c ∷ [] → ⊥
not_both a b c e = cc

pub replays_or_makes : (words : List (String Global)) (n : ℕ) → AreReplay words → AreMake words n → ⊥
replays_or_makes words n replays (word, are, rooms) = not_both (codes "replay") (codes "make") word (sym replays ∙ are)

second : (a b c d : List ℕ) → a ∷ b ∷ [] ≡ c ∷ d ∷ [] → b ≡ d
second a b c d e = cc

-- the words tell how many rooms
pub same_rooms : (words : List (String Global)) (n m : ℕ) → AreMake words n → AreMake words m → n ≡ m
same_rooms words n m (word, are, is) (other, have, has) =
    same_number 20000 (omega arith) word n m is (subst (λ (w : List ℕ). IsNumberUpTo 20000 w m) (sym (second (codes "make") word (codes "make") other (sym are ∙ have))) has)

-- ---- what documents are answered does not answer such words
module _ (words : List (String Global)) (some : AreNone words → ⊥) (no_documents : (command : Command) (names : List (List ℕ)) → IsCommand words command names → ⊥) where
  none_answered : (found : List (Option (List ℕ))) (s : Status) (line : List ℕ) → AnswersWords words found s line → ⊥
  none_answered found s line (inl h) = some h.1
  none_answered found s line (inr (command, names, is, h)) = no_documents command names is

  pub none_ended : (input : StreamChange) (shelf : ShelfChange) (output : StreamChange) (s : Status) → EndsAnswer words input shelf output s → ⊥
  none_ended input shelf output s (inl (line, h, appended)) = none_answered h.found s line h.answers
  none_ended input shelf output s (inr (inl (is, rose, h))) = none_answered h.answers.found h.answered h.line h.answers.answers
  none_ended input shelf output s (inr (inr (inl (is, (command, names, are, fault), kept)))) = no_documents command names are
  none_ended input shelf output s (inr (inr (inr (is, (command, names, are), kept)))) = no_documents command names are

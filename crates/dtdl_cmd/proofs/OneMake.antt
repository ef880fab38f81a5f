-- A graph that is made for the same words has the same counts written.
use Rattle.std.proofs.Common.{◌≡◌, ℕ, List, Some, String, inl, inr, subst}
use Rattle.std.specs.declared.alloc.Global.{Global}
use Rattle.std.specs.Io.KnownBytes.{Appends}
use Rattle.dtdl_cmd.specs.making.Made.{IsMade}
use Rattle.dtdl_cmd.specs.Words.{AreMake}
use Rattle.dtdl_cmd.specs.Documents.{ShelfChange, StreamChange}
use Rattle.dtdl_cmd.specs.Runs.{RunEnds, EndsMake}
use Rattle.dtdl_cmd.specs.declared.status.Status.{Status}
use Rattle.dtdl_cmd.specs.declared.status.Status.TheVariants as status
use Rattle.dtdl_cmd.proofs.OneReplay.{same_after}
use Rattle.dtdl_cmd.proofs.OtherWords.{makes_no_documents, none_ended, replays_or_makes, same_rooms}

-- words that make a graph are those of no other command
pub make_ends : (words : List (String Global)) (input : StreamChange) (shelf : ShelfChange) (output : StreamChange) (n : ℕ) (s : Status) → AreMake words n → RunEnds words input shelf output s → EndsMake n output s
make_ends words input shelf output n s makes (inl h) = absurd (none_ended words (λ none. none.2 n makes) (makes_no_documents words n makes) input shelf output s h)
make_ends words input shelf output n s makes (inr (inl h)) = absurd (replays_or_makes words n h.0 makes)
make_ends words input shelf output n s makes (inr (inr (m, are, h))) = subst (λ (k : ℕ). EndsMake k output s) (same_rooms words m n are makes) h

abbrev Whole : ℕ → StreamChange → Type 0
Whole n output = (text : List ℕ) × IsMade n text × Appends output.before output.after text

no_fault : (s : Status) → s ≡ status.Ok → s ≡ status.WriteFault → ⊥
no_fault s e f = cc

some_memory : (s : Status) → s ≡ status.Ok → s ≡ status.OutOfMemory → ⊥
some_memory s e f = cc

whole : (n : ℕ) (output : StreamChange) (s : Status) → s ≡ status.Ok → EndsMake n output s → Whole n output
whole n output s ok (inl h) = h.1
whole n output s ok (inr (inl h)) = absurd (no_fault s ok h.0)
whole n output s ok (inr (inr h)) = absurd (some_memory s ok h.0)

pub one_make : ((n : ℕ) (text other : List ℕ) → IsMade n text → IsMade n other → text ≡ other)
    → (words : List (String Global)) (input other : StreamChange) (shelf files : ShelfChange) (output sink : StreamChange) (n : ℕ) (before : List ℕ) (s t : Status)
    → AreMake words n → output.before ≡ Some before → sink.before ≡ Some before → s ≡ status.Ok → t ≡ status.Ok
    → RunEnds words input shelf output s → RunEnds words other files sink t → output.after ≡ sink.after
one_make law words input other shelf files output sink n before s t makes from too ok good one two =
    let h : Whole n output = whole n output s ok (make_ends words input shelf output n s makes one) in
    let k : Whole n sink = whole n sink t good (make_ends words other files sink n t makes two) in
    same_after before output.before sink.before output.after sink.after h.0 k.0 from too (law n h.0 k.0 h.1 k.1) h.2 k.2

-- Replies as contracts see them: trees without where they lie in memory.
use Rattle.std.specs.Prelude.{ℕ, List}
use Rattle.json_tree.specs.Values.{Json}
use Rattle.json_tree.specs.View.{view}
use Rattle.graph_asks.specs.declared.refusal.Refusal.{Refusal}
use Rattle.graph_asks.specs.declared.reply.Reply.{Reply}
use Rattle.graph_asks.specs.declared.reply.Reply.TheVariants as replies

pub data Answer : Type 0 where
  body : Json → Answer
  created : Json → Answer
  canon : List ℕ → Answer
  done : Answer
  refused : Refusal → Answer

abbrev pub answer_of : Reply → Answer
answer_of (replies.Body tree) = body (view tree)
answer_of (replies.Created tree) = created (view tree)
answer_of (replies.Canon bytes) = canon bytes
answer_of replies.Done = done
answer_of (replies.Refused refusal) = refused refusal

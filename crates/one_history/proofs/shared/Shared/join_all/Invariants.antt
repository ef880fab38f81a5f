use Rattle.std.proofs.Common.{◌≡◌, ◌++◌, length}
use Rattle.std.specs.Prelude.{Contains}
use Rattle.one_history.specs.declared.history.Turn.TheVariants.{Idle}
use Rattle.one_history.specs.Passes.{IsPassOf, members_of}
use Rattle.one_history.proofs.shared.Shared.join_all.Given as goal

abbrev pub invariant-loop-pass : goal.invariant-loop-pass
invariant-loop-pass g l = record {
  own : (p : _) → Contains l.passes.items p → IsPassOf l.self p;
  table : l.whole.table_id ≡ l.self.table.shared.table_id;
  all : members_of l.passes.items ++ l.whole.me.0.members ≡ members_of l.fn.passes.items;
  idle : l.whole.me.0.turn ≡ Idle;
}

abbrev pub decreases-loop-pass : goal.decreases-loop-pass
decreases-loop-pass g l = length l.passes.items

use Rattle.json_tree.specs.View.{members_view}
use Rattle.local_faults.specs.Machinery.Measured.{AreMeasured}
use Rattle.local_faults.proofs.rounds.settle.Given as goal

-- the table is right as far as the rounds are many
abbrev pub invariant-loop-round : goal.invariant-loop-round
invariant-loop-round l = AreMeasured (members_view l.names) l._round l.table

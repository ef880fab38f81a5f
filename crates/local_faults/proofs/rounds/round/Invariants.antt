use Rattle.std.proofs.Common.{◌≡◌, ℕ, false}
use Rattle.json_tree.specs.View.{members_view}
use Rattle.local_faults.specs.Machinery.Measured.{AreMeasured}
use Rattle.local_faults.proofs.Tabled.{AreMixed}
use Rattle.local_faults.proofs.rounds.round.Given as goal

-- the entries so far are measured anew
abbrev pub invariant-loop-at : goal.invariant-loop-at
invariant-loop-at l = record {
  right : (n : ℕ) → AreMeasured (members_view l.names) n l.initial.table → AreMixed (members_view l.names) n l.at l.table;
  same : l.changed ≡ false → l.table ≡ l.initial.table;
}

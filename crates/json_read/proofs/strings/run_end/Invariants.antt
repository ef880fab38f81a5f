use Rattle.std.proofs.Common.{length, ◌-◌, get_or}
use Rattle.json_tree.specs.Grammar.{IsPlainByte}
use Rattle.json_read.specs.Machinery.Spans.{Copies}
use Rattle.json_read.proofs.strings.run_end.Given as goal

abbrev pub invariant-run : goal.invariant-run
invariant-run l = record {
  copies : Copies l.bytes l.fn.at l.at;
  all : IsPlainByte (get_or l.bytes l.at 0) → ⊥;
}

abbrev pub decreases-run : goal.decreases-run
decreases-run l = length l.bytes - l.at

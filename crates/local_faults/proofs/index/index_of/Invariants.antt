use Rattle.std.proofs.Common.{map, take}
use Rattle.json_tree.specs.View.{view}
use Rattle.local_faults.specs.Machinery.Named.{IsIndex}
use Rattle.local_faults.proofs.index.index_of.Given as goal

-- each `@id` so far leads to the first entry that has it
abbrev pub invariant-loop-at : goal.invariant-loop-at
invariant-loop-at l = IsIndex (map view (take l.at l.entries)) l.index

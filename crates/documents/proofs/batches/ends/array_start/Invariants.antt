use Rattle.std.proofs.Common.{length, ◌-◌, ◌≤◌, drop}
use Rattle.json_tree.specs.Grammar.{Spells}
use Rattle.json_tree.specs.Values.{Json}
use Rattle.documents.proofs.batches.ends.array_start.Given as goal

abbrev pub invariant-spaces : goal.invariant-spaces
invariant-spaces l = record {
  within : l.at ≤ length l.bytes;
  spells : (v : Json) → Spells (drop l.at l.bytes) v → Spells l.bytes v;
}

abbrev pub decreases-spaces : goal.decreases-spaces
decreases-spaces l = length l.bytes - l.at

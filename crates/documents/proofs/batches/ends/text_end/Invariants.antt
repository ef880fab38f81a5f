use Rattle.std.proofs.Common.{length, ◌-◌, ◌≤◌}
use Rattle.documents.proofs.batches.ends.text_end.Given as goal

abbrev pub invariant-text : goal.invariant-text
invariant-text l = l.initial.at ≤ l.at

abbrev pub decreases-text : goal.decreases-text
decreases-text l = length l.bytes - l.at

use Rattle.std.proofs.Common.{length, ◌-◌, ◌≤◌}
use Rattle.documents.proofs.batches.ends.batch_end.Given as goal

abbrev pub invariant-batch : goal.invariant-batch
invariant-batch l = record {
  forward : l.start ≤ l.at;
  within : l.at ≤ length l.bytes;
  nested : l.depth ≤ l.at;
}

abbrev pub decreases-batch : goal.decreases-batch
decreases-batch l = length l.bytes - l.at

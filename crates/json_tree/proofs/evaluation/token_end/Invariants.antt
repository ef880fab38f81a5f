use Rattle.std.proofs.Common.{length, ◌-◌, ◌≤◌}
use Rattle.std.specs.List.{slice_range, AllByRecursion}
use Rattle.json_tree.specs.Machinery.Tokens.{IsNoSlash}
use Rattle.json_tree.proofs.evaluation.token_end.Given as goal

abbrev pub invariant-token : goal.invariant-token
invariant-token l = record {
  forward : l.initial.at ≤ l.end;
  within : l.end ≤ length l.bytes;
  token : AllByRecursion IsNoSlash (slice_range l.bytes l.initial.at l.end);
}

abbrev pub decreases-token : goal.decreases-token
decreases-token l = length l.bytes - l.end

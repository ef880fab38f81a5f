use Rattle.std.proofs.Common.{length, ◌-◌}
use Rattle.twin_patch.proofs.Tokens.{PathForward, PathBack}
use Rattle.twin_patch.proofs.paths.path_of.Given as goal

abbrev pub invariant-tokens : goal.invariant-tokens
invariant-tokens l = record {
  forward : PathForward l.bytes l.path.items l.at;
  back : PathBack l.bytes l.at;
}

abbrev pub decreases-tokens : goal.decreases-tokens
decreases-tokens l = length l.bytes - l.at

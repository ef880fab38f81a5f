use Rattle.std.proofs.Common.{length, ◌-◌, string_bytes}
use Rattle.std.specs.Str.{IsCharBoundary}
use Rattle.twin_patch.proofs.Tokens.{Forward, Back}
use Rattle.twin_patch.proofs.paths.key_of.Given as goal

abbrev pub invariant-runs : goal.invariant-runs
invariant-runs l = record {
  boundary : IsCharBoundary l.bytes l.at;
  forward : Forward l.bytes (string_bytes l.key) l.at;
  back : Back l.bytes l.at;
}

abbrev pub decreases-runs : goal.decreases-runs
decreases-runs l = length l.bytes - l.at

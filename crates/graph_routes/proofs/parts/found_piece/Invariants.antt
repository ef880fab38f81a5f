use Rattle.std.proofs.Common.{◌≡◌, ◌≤◌, ◌==◌, ◌-◌, drop, length, slice_get}
use Rattle.std.specs.List.{slice_split}
use Rattle.std.specs.Str.{IsCharBoundary}
use Rattle.graph_routes.proofs.parts.found_piece.Given as goal

abbrev pub invariant-pieces : goal.invariant-pieces
invariant-pieces l = record {
  within : l.start ≤ length l.bytes;
  boundary : IsCharBoundary l.bytes l.start;
  same : slice_get (slice_split (λ b. b == 47) (drop l.start l.bytes)) (l.slashes - l.counter) ≡ slice_get (slice_split (λ b. b == 47) l.bytes) l.slashes;
}

use Rattle.std.proofs.Common.{◌≡◌, drop}
use Rattle.json_read.specs.Machinery.Ways.{place_is_before}
use Rattle.json_read.proofs.places.is_before.Given as goal

abbrev pub invariant-steps : goal.invariant-steps
invariant-steps l = place_is_before (drop l.at l.place) (drop l.at l.other) ≡ place_is_before l.place l.other

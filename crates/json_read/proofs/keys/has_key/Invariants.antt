use Rattle.std.proofs.Common.{◌≡◌, map, drop}
use Rattle.json_read.specs.Machinery.Ways.{has_key}
use Rattle.json_read.proofs.keys.has_key.Given as goal

abbrev pub invariant-loop-member : goal.invariant-loop-member
invariant-loop-member l = has_key (map (λ m. m.key) (drop l.member-index l.members)) l.key ≡ has_key (map (λ m. m.key) l.members) l.key

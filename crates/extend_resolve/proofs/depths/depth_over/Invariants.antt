use Rattle.std.proofs.Common.{◌≡◌, drop}
use Rattle.extend_resolve.specs.Machinery.Deepening.{depth_over}
use Rattle.extend_resolve.proofs.depths.depth_over.Given as goal

abbrev pub invariant-links : goal.invariant-links
invariant-links l = depth_over l.depths 0 l.links ≡ depth_over l.depths l.most (drop l.link-index l.links)

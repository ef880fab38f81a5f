use Rattle.std.proofs.Common.{◌≡◌, ◌+◌, ◌≤◌, ◌<◌}
use Rattle.dt_base.specs.Faults.{Rose}
use Rattle.one_history.specs.Histories.{IsHistory}
use Rattle.one_history.specs.Passes.{seen, number, opening, IsPassOf, IsSamePass}
use Rattle.graph_server.specs.Machinery.Turns.{Works}
use Rattle.graph_server.proofs.works.work.Given as goal

-- the turns so far
abbrev pub invariant-turns : goal.invariant-turns
invariant-turns g l = record {
  own : IsPassOf l.fn.shared l.pass;
  same : IsSamePass l.fn.pass l.pass;
  so_far : Works (number l.fn.pass) (seen l.fn.pass) (seen l.pass) (g.D.Door.ahead l.fn.door) (g.D.Door.ahead l.door) (g.D.Door.gone l.fn.door) (g.D.Door.gone l.door) l.work.links l.work.faults l.work.broken l.work.short;
  legal : IsHistory g.O.Object.sound g.O.Object.allowed g.O.Object.follows (g.O.Object.state (opening l.fn.shared)) (seen l.fn.pass) → IsHistory g.O.Object.sound g.O.Object.allowed g.O.Object.follows (g.O.Object.state (opening l.fn.shared)) (seen l.pass);
  left : l.work.links + l.work.faults + g.D.Door.left l.door ≡ g.D.Door.left l.fn.door;
  few_broken : l.work.broken ≤ l.work.links;
  few_short : l.work.short ≤ l.work.links;
  failed : 0 < l.work.faults → Rose (g.D.Door.faults l.fn.door) (g.D.Door.faults l.door);
  broken : 0 < l.work.broken → Rose (g.D.Door.lost l.fn.door) (g.D.Door.lost l.door);
  count : g.D.Door.faults l.fn.door ≤ g.D.Door.faults l.door;
  lost : g.D.Door.lost l.fn.door ≤ g.D.Door.lost l.door;
}

abbrev pub decreases-turns : goal.decreases-turns
decreases-turns g l = g.D.Door.left l.door

use Rattle.std.proofs.Common.{arith}
use Rattle.graph_steps.specs.States.{twin_object}
use Rattle.graph_steps.specs.bodies.Kept.{twin_view}
use Rattle.graph_steps.proofs.bodies.Lengths.{same_length}
use Rattle.graph_steps.proofs.bodies.printing.twin_bytes.Goals as goal

pub returns-in-Some : goal.returns-in-Some
returns-in-Some c =
    let same = same_length (twin_object (twin_view c.args.t.now)) c.requires.distinct in
    let left = c.in-Some.ensures in
    (omega (arith, left, same), omega (arith, left))

pub returns-in-None : goal.returns-in-None
returns-in-None c =
    let same = same_length (twin_object (twin_view c.args.t.now)) c.requires.distinct in
    let more = c.in-None.ensures in
    omega (arith, more, same)

use Rattle.std.proofs.Common.{subst}
use Rattle.json_read.specs.Faults.{IsFault}
use Rattle.json_tree.specs.Values.{number}
use Rattle.json_read.proofs.Pointed.{duplicate_stands}
use Rattle.graph_routes.proofs.bodies.fault_refusal.Goals as goal

pub refusal_at-requires : goal.refusal_at-requires
refusal_at-requires c =
    let r = subst (IsFault c.args.body.now) c.in-Duplicate.is c.requires in
    (r.0, r.1, duplicate_stands r.0 c.in-Duplicate.place.steps r.2)

pub refusal_at-requires-in-Range : goal.refusal_at-requires-in-Range
refusal_at-requires-in-Range c =
    let r = subst (IsFault c.args.body.now) c.in-Range.is c.requires in
    (r.0, r.1, (number r.2.0, r.2.2))

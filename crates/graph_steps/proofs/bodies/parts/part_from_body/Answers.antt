use Rattle.json_tree.specs.View.{view}
use Rattle.twin_value.specs.Breaches.{IsBodyBreach, twin_role_of}
use Rattle.twin_value.specs.Roles.{body_member_role}
use Rattle.graph_steps.proofs.bodies.Faults.{breach_somewhere, end_somewhere}
use Rattle.graph_steps.proofs.bodies.Reading.{part_as_read, part_kept, part_clear, part_fails}
use Rattle.graph_steps.proofs.bodies.parts.part_from_body.Goals as goal

pub failure_of-requires : goal.failure_of-requires
failure_of-requires c =
    end_somewhere (IsBodyBreach (body_member_role (twin_role_of c.args.resolved.now) c.args.name.now) (view c.args.tree.now)) (view c.args.tree.now) (breach_somewhere (body_member_role (twin_role_of c.args.resolved.now) c.args.name.now) (view c.args.tree.now))
    c.in-Err.end c.in-Err.ensures

pub returns-in-Err-clause-part : goal.returns-in-Err-clause-part
returns-in-Err-clause-part c = λ s i is. part_fails s i c.args.resolved.now is c.args.name.now (view c.args.tree.now) c.in-Err.end c.failure_of.result c.in-Err.ensures c.failure_of.ensures

pub returns-in-Ok-clause-part : goal.returns-in-Ok-clause-part
returns-in-Ok-clause-part c = λ s i is. (
  part_clear s i c.args.resolved.now is c.args.name.now (view c.args.tree.now) c.in-Ok.ensures.0,
  part_as_read (view c.args.tree.now) (view c.in-Ok.values) c.requires c.in-Ok.ensures.1,
)

pub returns-in-Ok-clause-kept : goal.returns-in-Ok-clause-kept
returns-in-Ok-clause-kept c = part_kept (view c.args.tree.now) (view c.in-Ok.values) c.requires c.in-Ok.ensures.1

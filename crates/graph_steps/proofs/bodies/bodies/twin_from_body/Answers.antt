use Rattle.std.proofs.Common.{subst, sym, ap, ◌∙◌}
use Rattle.json_tree.specs.View.{view}
use Rattle.twin_value.specs.Breaches.{IsTwinBreach, twin_role_of}
use Rattle.twin_value.specs.declared.twin.Twin as values
use Rattle.graph_steps.specs.bodies.Kept.{twin_view, IsKeptTwin}
use Rattle.graph_steps.proofs.bodies.Faults.{breach_somewhere, end_somewhere}
use Rattle.graph_steps.proofs.bodies.Reading.{twin_is_for, twin_kept, twin_clear, twin_fails}
use Rattle.graph_steps.proofs.bodies.bodies.twin_from_body.Goals as goal

pub failure_of-requires : goal.failure_of-requires
failure_of-requires c =
    end_somewhere (IsTwinBreach c.args.resolved.now (view c.args.tree.now)) (view c.args.tree.now) (breach_somewhere (twin_role_of c.args.resolved.now) (view c.args.tree.now)) c.in-Err.end c.in-Err.ensures

pub returns-in-Err-clause-twin : goal.returns-in-Err-clause-twin
returns-in-Err-clause-twin c = λ s is. twin_fails s c.args.interface.now c.args.resolved.now is (view c.args.tree.now) c.in-Err.end c.failure_of.result c.in-Err.ensures c.failure_of.ensures

pub returns-in_ok-twin-in-Ok-clause-twin : goal.returns-in_ok-twin-in-Ok-clause-twin
returns-in_ok-twin-in-Ok-clause-twin c = λ s is. (
  twin_clear s c.args.interface.now c.args.resolved.now is (view c.args.tree.now) c.in-Ok.ensures.0,
  ap (λ (t : values.Twin). twin_view t) c.in_ok-twin-in-Ok.ensures
      ∙ twin_is_for s c.args.interface.now c.args.resolved.now is c.args.id.now (view c.args.tree.now) (view c.in-Ok.values) (view c.in-Ok.parts) c.requires (c.in-Ok.ensures.1, c.in-Ok.ensures.2),
)

pub returns-in_ok-twin-in-Ok-clause-kept : goal.returns-in_ok-twin-in-Ok-clause-kept
returns-in_ok-twin-in-Ok-clause-kept c =
    subst (λ (t : values.Twin). IsKeptTwin (twin_view t)) (sym c.in_ok-twin-in-Ok.ensures)
    (twin_kept c.args.resolved.now c.args.id.now (view c.args.tree.now) (view c.in-Ok.values) (view c.in-Ok.parts) c.args.interface.now.id c.requires (c.in-Ok.ensures.1, c.in-Ok.ensures.2))

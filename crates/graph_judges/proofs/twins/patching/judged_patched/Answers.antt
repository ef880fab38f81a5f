use Rattle.std.proofs.Common.{◌≡◌, ap, sym, subst, ◌∙◌}
use Rattle.json_tree.specs.Values.{Json}
use Rattle.json_tree.specs.View.{view}
use Rattle.twin_patch.specs.Objects.{sorted_value}
use Rattle.twin_patch.specs.Operations.{operations_of}
use Rattle.twin_patch.specs.Patched.{patched_from}
use Rattle.graph_steps.proofs.bodies.Keys.{sorted_again}
use Rattle.graph_steps.specs.held.Held.{state_of, twin_of}
use Rattle.graph_steps.specs.States.{twin_object, twin_value}
use Rattle.graph_judges.proofs.twins.Patched.{patched_judged}
use Rattle.graph_judges.proofs.twins.patching.judged_patched.Goals as goal

pub patched-requires-clause-sorted : goal.patched-requires-clause-sorted
patched-requires-clause-sorted c = subst (λ (v : Json). sorted_value v ≡ v) (sym c.in_ok-before.ensures) (sorted_again (twin_object (twin_of c.args.held.now)))

pub returns-clause-judged : goal.returns-clause-judged
returns-clause-judged c =
    let os = operations_of c.args.patch.now.ops in
    patched_judged (state_of c.args.lent.now) c.args.id.now os (twin_value (twin_of c.args.held.now)) (view c.in_ok-after.after)
    (ap (patched_from 0 os) (sym c.in_ok-before.ensures) ∙ c.in_ok-after.ensures.patched) c.judged_new_body.result c.judged_new_body.ensures.judged

use Rattle.std.proofs.Common.{◌≡◌, ap, sym, subst, ◌∙◌}
use Rattle.json_tree.specs.Values.{Json}
use Rattle.json_tree.specs.View.{view}
use Rattle.twin_patch.specs.Objects.{sorted_value}
use Rattle.twin_patch.specs.Operations.{operations_of}
use Rattle.twin_patch.specs.Patched.{patched_from}
use Rattle.twin_value.specs.Twins.{with_metadata}
use Rattle.graph_steps.proofs.bodies.Keys.{sorted_again}
use Rattle.graph_steps.specs.held.Held.{state_of, twin_of}
use Rattle.graph_steps.specs.States.{part_value}
use Rattle.graph_judges.proofs.twins.Patched.{part_judged}
use Rattle.graph_judges.proofs.twins.parts.judged_part_of.Goals as goal

pub part_tree-requires : goal.part_tree-requires
part_tree-requires c = c.kept_part.ensures (twin_of c.args.held.now) c.args.name.now (view c.args.part.now) c.requires.held.kept c.requires.has

pub patched-requires-clause-sorted : goal.patched-requires-clause-sorted
patched-requires-clause-sorted c = subst (λ (v : Json). sorted_value v ≡ v) (sym c.in_ok-before.ensures) (sorted_again (with_metadata (view c.args.part.now)))

pub returns-clause-judged : goal.returns-clause-judged
returns-clause-judged c =
    let os = operations_of c.args.patch.now.ops in
    part_judged (state_of c.args.lent.now) c.args.name.now c.args.interface.now (twin_of c.args.held.now) os (part_value (view c.args.part.now)) (view c.in_ok-after.after)
    (ap (patched_from 0 os) (sym c.in_ok-before.ensures) ∙ c.in_ok-after.ensures.patched) c.judged_values.result c.judged_values.ensures.judged

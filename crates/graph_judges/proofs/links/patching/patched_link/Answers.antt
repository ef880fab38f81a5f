use Rattle.std.proofs.Common.{◌≡◌, ◌∙◌, sym, ap, subst}
use Rattle.json_tree.specs.Values.{Json}
use Rattle.json_tree.specs.View.{view}
use Rattle.twin_patch.specs.Objects.{sorted_value}
use Rattle.twin_patch.specs.Operations.{operations_of}
use Rattle.twin_patch.specs.Patched.{patched_from}
use Rattle.graph_steps.specs.States.{link_object, link_value}
use Rattle.graph_steps.proofs.bodies.Keys.{sorted_again}
use Rattle.graph_steps.specs.held.Held.{link_of, state_of}
use Rattle.graph_judges.specs.declared.links.new_link.NewLink.{NewLink}
use Rattle.graph_judges.proofs.links.Patches.{fault_so, patched_so}
use Rattle.graph_judges.proofs.links.patching.patched_link.Goals as goal

pub patched-requires-clause-sorted : goal.patched-requires-clause-sorted
patched-requires-clause-sorted c = subst (λ (v : Json). sorted_value v ≡ v) (sym c.in_ok-tree.ensures) (sorted_again (link_object (link_of c.args.link.now)))

pub returns-in-Ok-clause-judged : goal.returns-in-Ok-clause-judged
returns-in-Ok-clause-judged c =
    let os = operations_of c.args.patch.now.ops in
    patched_so (state_of c.args.lent.now) c.args.interface.now (link_of c.args.link.now) (patched_from 0 os (link_value (link_of c.args.link.now))) (view c.in-Ok.new)
    (ap (patched_from 0 os) (sym c.in_ok-tree.ensures) ∙ c.in-Ok.ensures.patched) (λ (new : NewLink). link_of new.edge) c.judged_again.result c.judged_again.ensures.judged

pub returns-in-Err-clause-judged : goal.returns-in-Err-clause-judged
returns-in-Err-clause-judged c =
    fault_so (state_of c.args.lent.now) c.args.interface.now (link_of c.args.link.now) (operations_of c.args.patch.now.ops) (view c.in_ok-tree.tree) c.in_ok-tree.ensures c.in-Err.failure c.in-Err.ensures.patched

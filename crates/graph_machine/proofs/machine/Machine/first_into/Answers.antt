use Rattle.std.proofs.Common.{None, ◌∙◌, take, ap, subst}
use Rattle.std.specs.List.{AllByRecursion, filter}
use Rattle.graph_steps.specs.paging.Rows as rows
use Rattle.graph_steps.specs.held.Held.{IsHeldLink}
use Rattle.graph_machine.proofs.Pages.{decides_into, kept_into}
use Rattle.graph_machine.proofs.Told.{weaker}
use Rattle.graph_machine.proofs.machine.Machine.first_into.Goals as goal

pub returns-clause-edges : goal.returns-clause-edges
returns-clause-edges c =
    weaker c.first_called.result _ _ (λ first is.
    decides_into c.args.self.now c.args.target.now c.args.after.now first.items
    (is
    ∙ ap (λ l. take 101 (filter (rows.is_edge_called None) l)) c.all_into.ensures))
    c.first_called.ensures

pub returns-clause-kept : goal.returns-clause-kept
returns-clause-kept c =
    weaker c.first_called.result _ _ (λ first is.
    kept_into c.args.target.now c.args.after.now c.args.self.now.links first.items
    (subst (λ g. AllByRecursion IsHeldLink g.links) c.self.view_is c.self.invariant.held.links)
    (is
    ∙ ap (λ l. take 101 (filter (rows.is_edge_called None) l)) c.all_into.ensures))
    c.first_called.ensures

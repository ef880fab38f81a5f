use Rattle.std.proofs.Common.{◌∙◌, take, ap, subst}
use Rattle.std.specs.List.{AllByRecursion, filter}
use Rattle.std.specs.Option.{option_copied}
use Rattle.graph_steps.specs.paging.Rows as rows
use Rattle.graph_steps.specs.held.Held.{IsHeldLink}
use Rattle.graph_machine.specs.Machinery.Listings.{raw_out}
use Rattle.graph_machine.proofs.Pages.{decides_out, kept_out}
use Rattle.graph_machine.proofs.Told.{weaker}
use Rattle.graph_machine.proofs.machine.Machine.first_out.Goals as goal

pub returns-clause-edges : goal.returns-clause-edges
returns-clause-edges c =
    weaker c.first_called.result _ _ (λ first is.
    decides_out c.args.self.now c.args.source.now c.args.name.now c.args.after.now first.items
    (is
    ∙ ap (λ l. take 101 (filter (rows.is_edge_called (option_copied c.as_ref.result)) l)) c.all_out.ensures
    ∙ ap (λ n. take 101 (filter (rows.is_edge_called n) (raw_out c.args.source.now c.args.after.now c.args.self.now.links))) c.as_ref.ensures.value))
    c.first_called.ensures

pub returns-clause-kept : goal.returns-clause-kept
returns-clause-kept c =
    weaker c.first_called.result _ _ (λ first is.
    kept_out c.args.source.now c.args.name.now c.args.after.now c.args.self.now.links first.items
    (subst (λ g. AllByRecursion IsHeldLink g.links) c.self.view_is c.self.invariant.held.links)
    (is
    ∙ ap (λ l. take 101 (filter (rows.is_edge_called (option_copied c.as_ref.result)) l)) c.all_out.ensures
    ∙ ap (λ n. take 101 (filter (rows.is_edge_called n) (raw_out c.args.source.now c.args.after.now c.args.self.now.links))) c.as_ref.ensures.value))
    c.first_called.ensures

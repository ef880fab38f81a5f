use Rattle.std.proofs.Common.{◌∙◌, sym, ap, Some, None}
use Rattle.graph_machine.specs.Machinery.Listings.{raw_out}
use Rattle.graph_machine.proofs.machine.Machine.all_out.Goals as goal

pub returns-in-Some : goal.returns-in-Some
returns-in-Some c =
    c.out_after.ensures
    ∙ ap (λ g. raw_out c.args.source.now (Some c.in-Some.id) g.links) c.self.view_is
    ∙ ap (λ o. raw_out c.args.source.now o c.args.self.now.links) (sym c.in-Some.is)

pub returns-in-None : goal.returns-in-None
returns-in-None c =
    c.out.ensures
    ∙ ap (λ g. raw_out c.args.source.now None g.links) c.self.view_is
    ∙ ap (λ o. raw_out c.args.source.now o c.args.self.now.links) (sym c.in-None.is)

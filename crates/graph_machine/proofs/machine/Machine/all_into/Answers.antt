use Rattle.std.proofs.Common.{◌∙◌, sym, ap, Some, None}
use Rattle.graph_machine.specs.Machinery.Listings.{raw_into}
use Rattle.graph_machine.proofs.machine.Machine.all_into.Goals as goal

pub returns-in-Some : goal.returns-in-Some
returns-in-Some c =
    c.into_after.ensures
    ∙ ap (λ g. raw_into c.args.target.now (Some c.in-Some.past) g.links) c.self.view_is
    ∙ ap (λ o. raw_into c.args.target.now o c.args.self.now.links) (sym c.in-Some.is)

pub returns-in-None : goal.returns-in-None
returns-in-None c =
    c.into.ensures
    ∙ ap (λ g. raw_into c.args.target.now None g.links) c.self.view_is
    ∙ ap (λ o. raw_into c.args.target.now o c.args.self.now.links) (sym c.in-None.is)

use Rattle.std.proofs.Common.{◌∙◌, ap}
use Rattle.twin_value.specs.Breaches.{link_called}
use Rattle.graph_steps.specs.held.Held.{link_of}
use Rattle.graph_judges.specs.fits.Machinery.Judged.{with_given}
use Rattle.graph_judges.proofs.fits.OneLink.{among_one}
use Rattle.graph_judges.proofs.fits.links.suits_among.Goals as goal

pub returns-in-Some : goal.returns-in-Some
returns-in-Some c =
    among_one (with_given c.args.twin.now c.args.lent.now) c.args.resolved.now.contents (link_of c.args.edge.now) c.in-Some.content.now c.suits_kind.result
    (c.in-Some.ensures ∙ ap (link_called c.args.edge.now.name) c.as_slice.ensures) c.suits_kind.ensures

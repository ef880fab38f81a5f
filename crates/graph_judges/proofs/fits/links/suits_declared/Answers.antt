use Rattle.std.proofs.Common.{sym, ap, ◌∙◌, subst}
use Rattle.dtdl_terms.specs.declared.interface.Interface.{Interface}
use Rattle.extend_resolve.specs.Breaches.{BreaksNoRule}
use Rattle.model_life.specs.Models.{interfaces_of}
use Rattle.model_life.specs.resolution.Resolving.{HoldsRight}
use Rattle.std.proofs.Common.{List}
use Rattle.graph_steps.proofs.bodies.Alike.{link_called_alike}
use Rattle.graph_steps.specs.Inherited.{contents}
use Rattle.graph_steps.specs.States.{set_of}
use Rattle.graph_steps.specs.held.Held.{link_of, state_of}
use Rattle.graph_steps.proofs.held.Viewed.{model_in}
use Rattle.graph_judges.specs.fits.Machinery.Judged.{with_given}
use Rattle.graph_judges.proofs.fits.OneLink.{among_same}
use Rattle.graph_judges.proofs.fits.links.suits_declared.Goals as goal

pub returns-clause-suits : goal.returns-clause-suits
returns-clause-suits c =
    let rules : BreaksNoRule (set_of (state_of c.args.lent.now)) = subst (λ (set : List Interface). BreaksNoRule set) (ap interfaces_of c.models.ensures) c.sound.ensures.rules in
    let right : HoldsRight (set_of (state_of c.args.lent.now)) c.ready.new.self = subst (λ (set : List Interface). HoldsRight set c.ready.new.self) (c.set.ensures ∙ ap interfaces_of c.models-2.ensures) c.ready.ensures.right in
    let is = model_in (state_of c.args.lent.now) c.ready.new.self c.args.interface.now c.in-Some.resolved.now rules c.requires.there right (sym c.in-Some.ensures) in
    among_same (with_given c.args.twin.now c.args.lent.now) c.in-Some.resolved.now.contents (contents (set_of (state_of c.args.lent.now)) c.args.interface.now) (link_of c.args.edge.now) c.suits_among.result
    (link_called_alike (set_of (state_of c.args.lent.now)) is.rules c.args.interface.now is.there c.in-Some.resolved.now is.resolved c.args.edge.now.name) c.suits_among.ensures

use Rattle.std.proofs.Common.{◌≡◌, ◌∙◌, sym, ap}
use Rattle.std.proofs.lemmas.Slice.Eq.{bytes_eq-Decides}
use Rattle.graph_steps.specs.bodies.Kept.{twin_view}
use Rattle.graph_steps.specs.States.{twin_at}
use Rattle.graph_steps.proofs.invariants.Twins.{apart, twin_own, twin_else}
use Rattle.graph_steps.specs.held.Held.{state_of}
use Rattle.graph_judges.specs.fits.Machinery.Judged.{with_given}
use Rattle.graph_judges.proofs.fits.links.standing.Goals as goal

pub returns-then-eq : goal.returns-then-eq
returns-then-eq c =
    let same : c.args.id.now ≡ c.args.twin.now.id = (bytes_eq-Decides c.args.id.now c.args.twin.now.id).0 (sym c.eq.ensures ∙ c.if-eq.true) in
    sym (ap (λ q. twin_at q (with_given c.args.twin.now c.args.lent.now)) same ∙ twin_own (twin_view c.args.twin.now) (state_of c.args.lent.now))

pub returns : goal.returns
returns c =
    c.twin.ensures.at
    ∙ sym (twin_else (twin_view c.args.twin.now) (state_of c.args.lent.now) c.args.id.now (apart c.args.id.now c.args.twin.now.id (sym c.eq.ensures ∙ c.if-eq.false)))

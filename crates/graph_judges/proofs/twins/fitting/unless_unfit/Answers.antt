use Rattle.std.proofs.Common.{sym, ap, ◌∙◌}
use Rattle.std.specs.Option.{option_copied, option_map}
use Rattle.graph_steps.specs.bodies.Kept.{twin_view}
use Rattle.graph_steps.specs.held.Held.{state_of, twin_of}
use Rattle.graph_judges.proofs.twins.Unfit.{same_fits}
use Rattle.graph_judges.proofs.twins.fitting.unless_unfit.Goals as goal

pub returns-then-is_one-clause-fits : goal.returns-then-is_one-clause-fits
returns-then-is_one-clause-fits c =
    same_fits (state_of c.args.lent.now) c.requires.typed (twin_view c.args.twin.now) (twin_of c.in-Some.old.now) (sym c.requires.there ∙ ap (λ o. option_map twin_of (option_copied o)) c.in-Some.is) (c.is_one.ensures.0 c.if-is_one.true)

use Rattle.std.proofs.Common.{◌∙◌, Some, sym, ap, subst}
use Rattle.std.specs.Option.{option_copied}
use Rattle.graph_steps.specs.bodies.Kept.{twin_view}
use Rattle.graph_steps.specs.held.Held.{state_of}
use Rattle.graph_steps.specs.LinkAsks.{WrongTarget}
use Rattle.graph_judges.proofs.links.Suited.{no_target, missed, suits}
use Rattle.graph_judges.proofs.links.targets.target_refusal.Goals as goal

pub returns-in_default : goal.returns-in_default
returns-in_default c =
    no_target (state_of c.args.lent.now) c.args.content.now c.args.target.now (twin_view c.args.twin.now) c.requires (sym c.target_of.ensures ∙ ap option_copied c.in_default.is)

pub returns-then-misses : goal.returns-then-misses
returns-then-misses c =
    subst (WrongTarget (state_of c.args.lent.now) (Some c.args.content.now) c.args.target.now) (sym c.in_ok-refusal.ensures)
    (missed (state_of c.args.lent.now) c.args.content.now c.args.target.now (twin_view c.args.twin.now) c.requires c.in-Some.declared.now
    (sym c.target_of.ensures ∙ ap option_copied c.in-Some.is) (sym c.misses.ensures ∙ c.if-misses.true))

pub returns : goal.returns
returns c =
    suits (state_of c.args.lent.now) c.args.content.now c.args.target.now (twin_view c.args.twin.now) c.requires c.in-Some.declared.now
    (sym c.target_of.ensures ∙ ap option_copied c.in-Some.is) (sym c.misses.ensures ∙ c.if-misses.false)

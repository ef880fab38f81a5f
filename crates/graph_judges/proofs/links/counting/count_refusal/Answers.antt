use Rattle.std.proofs.Common.{◌≤◌, ◌<◌, ◌∙◌, Some, length, sym, subst, arith}
use Rattle.graph_asks.specs.declared.refusal.Refusal.TheVariants as refusals
use Rattle.graph_steps.specs.LinkAsks.{Multiplicity, others_named}
use Rattle.graph_steps.specs.held.Held.{state_of}
use Rattle.graph_judges.proofs.links.Counts.{no_most, too_many, few_enough}
use Rattle.graph_judges.proofs.links.counting.count_refusal.Goals as goal

pub returns-in_default : goal.returns-in_default
returns-in_default c = no_most (state_of c.args.lent.now) c.args.content.now c.args.source.now c.args.id.now c.args.name.now (sym c.most_of.ensures ∙ c.in_default.is)

pub returns-then-others-max : goal.returns-then-others-max
returns-then-others-max c =
    let s = state_of c.args.lent.now in
    let low : c.in-Some.most ≤ length (others_named s c.args.source.now c.args.id.now c.args.name.now) = omega (arith, c.from-max.ensures, c.others.ensures, c.if-others-max.true) in
    subst (λ n. Multiplicity s (Some c.args.content.now) c.args.source.now c.args.id.now c.args.name.now (refusals.Multiplicity n)) (sym c.from-max.ensures)
    (too_many s c.args.content.now c.args.source.now c.args.id.now c.args.name.now c.in-Some.most (sym c.most_of.ensures ∙ c.in-Some.is) low)

pub returns : goal.returns
returns c =
    let s = state_of c.args.lent.now in
    let few : length (others_named s c.args.source.now c.args.id.now c.args.name.now) < c.in-Some.most = omega (arith, c.from-max.ensures, c.others.ensures, c.if-others-max.false) in
    few_enough s c.args.content.now c.args.source.now c.args.id.now c.args.name.now c.in-Some.most (sym c.most_of.ensures ∙ c.in-Some.is) few

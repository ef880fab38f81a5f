use Rattle.std.proofs.Common.{sym, ◌∙◌, subst}
use Rattle.model_life.specs.resolution.Machinery.Counting.{IsCounted}
use Rattle.model_life.proofs.resolution.Holding.{taken_counted}
use Rattle.model_life.proofs.resolution.resolutions.Resolutions.remove.Goals as goal

pub invariant_of-self : goal.invariant_of-self
invariant_of-self c = (
  c.remove.ensures.ordered,
  subst (IsCounted c.remove.new.self.entries) (sym c.saturating_sub-self-inside.ensures)
      (taken_counted c.args.id.now c.self.inside.entries.entries c.remove.new.self.entries c.in-Some.resolved c.self.inside.held c.contents_of.result (sym c.remove.ensures.value ∙ c.in-Some.is) c.remove.ensures.entries c.contents_of.ensures c.self.invariant.1),
)

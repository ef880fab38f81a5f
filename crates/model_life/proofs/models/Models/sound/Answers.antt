use Rattle.std.proofs.Common.{sym, ap, ◌∙◌, subst}
use Rattle.std.specs.List.{AllByRecursion}
use Rattle.dtdl_terms.specs.Distinct.{HasDeclaration}
use Rattle.dtdl_terms.specs.Sets.{InOrder}
use Rattle.extend_resolve.specs.Breaches.{BreaksNoRule}
use Rattle.model_life.specs.Models.{interfaces_of}
use Rattle.model_life.specs.Sums.{AreWithinLimits}
use Rattle.model_life.proofs.Seen.{seen_all}
use Rattle.model_life.proofs.Whole.{within_limits}
use Rattle.model_life.proofs.models.Models.sound.Goals as goal

pub returns-clause-rules : goal.returns-clause-rules
returns-clause-rules c = subst BreaksNoRule (sym (seen_all c.self.inside.set c.self.inside.records) ∙ ap interfaces_of c.self.view_is) c.self.invariant.rules

pub returns-clause-declared : goal.returns-clause-declared
returns-clause-declared c = subst (AllByRecursion HasDeclaration) (sym (seen_all c.self.inside.set c.self.inside.records) ∙ ap interfaces_of c.self.view_is) c.self.invariant.declared

pub returns-clause-ordered : goal.returns-clause-ordered
returns-clause-ordered c = subst InOrder (sym (seen_all c.self.inside.set c.self.inside.records) ∙ ap interfaces_of c.self.view_is) c.self.invariant.ordered

pub returns-clause-limits : goal.returns-clause-limits
returns-clause-limits c = subst AreWithinLimits c.self.view_is (within_limits c.self.inside.set c.self.inside.records c.self.inside.users c.self.inside.shares c.self.inside.bytes c.self.inside.resolved c.self.invariant)

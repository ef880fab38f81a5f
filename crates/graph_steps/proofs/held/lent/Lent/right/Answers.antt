use Rattle.std.proofs.Common.{subst}
use Rattle.std.specs.List.{AllByRecursion}
use Rattle.graph_steps.specs.held.Held.{Holding, IsHeldTwin, IsHeldLink}
use Rattle.graph_steps.proofs.held.lent.Lent.right.Goals as goal

pub returns-clause-twins : goal.returns-clause-twins
returns-clause-twins c = subst (λ (h : Holding). AllByRecursion IsHeldTwin h.twins) c.self.view_is c.self.invariant.twins

pub returns-clause-links : goal.returns-clause-links
returns-clause-links c = subst (λ (h : Holding). AllByRecursion IsHeldLink h.links) c.self.view_is c.self.invariant.links

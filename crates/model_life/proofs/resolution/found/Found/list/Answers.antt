use Rattle.std.proofs.Common.{map, ap, ◌∙◌, subst}
use Rattle.dtdl_terms.specs.Sets.{InOrder}
use Rattle.model_life.proofs.resolution.Families.{found_ordered, found_values}
use Rattle.model_life.proofs.resolution.found.Found.list.Goals as goal

pub returns-clause-each : goal.returns-clause-each
returns-clause-each c = ap (map (λ x. x.now)) c.in_ok-list.ensures ∙ found_values c.self.inside.by_id.entries ∙ c.self.view_is

pub returns-clause-ordered : goal.returns-clause-ordered
returns-clause-ordered c = subst InOrder c.self.view_is (found_ordered c.self.inside.by_id.entries c.self.invariant.0 c.self.invariant.1)

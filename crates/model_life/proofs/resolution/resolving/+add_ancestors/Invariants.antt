use Rattle.dt_base.specs.names.Grammar.{Identifier}
use Rattle.model_life.specs.resolution.Machinery.Families.{GrowsFamily, IsOfFirst, IsFoundFor}
use Rattle.model_life.proofs.resolution.resolving.+add_ancestors.Given as goal

abbrev pub decreases-add_ancestors : goal.decreases-add_ancestors
decreases-add_ancestors l = l.steps

abbrev pub invariant-parents : goal.invariant-parents
invariant-parents l = record {
  grows : GrowsFamily l.set l.interface l.fn.found l.found;
  parents : (p : Identifier) → IsOfFirst l.interface.parents l.parent-index p → IsFoundFor l.set l.found p;
}

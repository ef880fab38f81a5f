use Rattle.query_terms.specs.Machinery.Weights.{weight}
use Rattle.query_terms.proofs.cond.Cond.drop.Given as goal

abbrev pub decreases-turns : goal.decreases-turns
decreases-turns l = weight l.self

use Rattle.std.proofs.Common.{arith}
use Rattle.query_terms.proofs.Weights.{positive}
use Rattle.query_terms.proofs.cond.turn.Goals as goal

pub returns-in-Or-clause-lighter : goal.returns-in-Or-clause-lighter
returns-in-Or-clause-lighter c = λ _. let first = positive c.in-Or.first.value in grind (arith, first)

pub returns-in-And-clause-lighter : goal.returns-in-And-clause-lighter
returns-in-And-clause-lighter c = λ _. let first = positive c.in-And.first.value in grind (arith, first)

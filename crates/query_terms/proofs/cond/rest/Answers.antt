use Rattle.std.proofs.Common.{arith}
use Rattle.query_terms.proofs.Weights.{positive}
use Rattle.query_terms.proofs.cond.rest.Goals as goal

pub returns : goal.returns
returns c =
    let first = positive c.args.left.value in
    let same = c.turn.ensures.beside c.if-turn.false in
    grind (arith, first, same)

use Rattle.json_tree.proofs.Evaluated.{compared}
use Rattle.json_tree.proofs.evaluation.is_token_of.Goals as goal

pub returns : goal.returns
returns c = compared c.args.token.now c.args.key.now c.key.at c.key.byte-index c.key.invariant.within c.key-test.false c.key.invariant.same

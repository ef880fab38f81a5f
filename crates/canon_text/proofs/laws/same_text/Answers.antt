use Rattle.std.proofs.Common.{ap}
use Rattle.json_tree.specs.Printing.{printed}
use Rattle.canon_text.proofs.laws.same_text.Goals as goal

pub returns : goal.returns
returns c = λ d e same. ap printed ((c.one_tree.ensures d e).1 same)

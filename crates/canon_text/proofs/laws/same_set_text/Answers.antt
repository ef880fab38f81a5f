use Rattle.std.proofs.Common.{ap, [], ◌∷◌, ◌++◌}
use Rattle.json_tree.specs.Values.{Json}
use Rattle.json_tree.specs.Printing.{printed}
use Rattle.canon_text.proofs.laws.same_set_text.Goals as goal

pub returns : goal.returns
returns c = λ d e first second same. ap (λ (v : Json). printed v ++ 10 ∷ []) ((c.one_set_tree.ensures d e first second).1 same)

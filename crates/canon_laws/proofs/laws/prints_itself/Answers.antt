use Rattle.std.proofs.Common.{ap, [], ◌∷◌, ◌++◌}
use Rattle.json_tree.specs.Values.{Json}
use Rattle.json_tree.specs.Printing.{printed}
use Rattle.canon_laws.proofs.Documents.{set_back}
use Rattle.canon_laws.proofs.laws.prints_itself.Goals as goal

pub returns-clause-tree : goal.returns-clause-tree
returns-clause-tree c = set_back

pub returns-clause-text : goal.returns-clause-text
returns-clause-text c = λ is nth us types g. ap (λ (v : Json). printed v ++ 10 ∷ []) (set_back is nth us types g)

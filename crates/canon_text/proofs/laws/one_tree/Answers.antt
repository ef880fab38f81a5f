use Rattle.canon_text.proofs.SameTrees.{interface_same}
use Rattle.canon_text.proofs.ToldTrees.{interface_told}
use Rattle.canon_text.proofs.laws.one_tree.Goals as goal

pub returns : goal.returns
returns c = λ d e. (
  λ same. interface_told c.args.one.now c.args.other.now c.identified.ensures c.identified-2.ensures same,
  λ same. interface_same c.args.one.now c.args.other.now d e c.identified.ensures c.identified-2.ensures same,
)

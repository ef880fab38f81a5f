use Rattle.canon_text.proofs.Sets.{set_told, set_same}
use Rattle.canon_text.proofs.laws.one_set_tree.Goals as goal

pub returns : goal.returns
returns c = λ d e first second. (
  λ same. set_told c.args.one.now c.args.other.now c.each_identified.ensures c.each_identified-2.ensures same,
  λ same. set_same c.args.one.now c.args.other.now d e c.each_identified.ensures c.each_identified-2.ensures first second same,
)

use Rattle.twin_patch.proofs.Distinct.{read_tree}
use Rattle.bench_patches.proofs.tree_of.Goals as goal

pub returns : goal.returns
returns c = read_tree c.args.bytes.now c.in-Ok.tree c.in-Ok.ensures

use Rattle.twin_patch.proofs.Distinct.{read_tree}
use Rattle.patch_tests.proofs.rows.tree_of.Goals as goal

pub returns : goal.returns
returns c = read_tree c.as_bytes.result.now c.in_ok-tree.tree c.in_ok-tree.ensures

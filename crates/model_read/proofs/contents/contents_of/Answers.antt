use Rattle.local_rules.specs.Declarations.{IsContentEntry}
use Rattle.model_read.specs.Machinery.Shapes.{IsValidContent}
use Rattle.model_read.proofs.Grown.{elements_step}
use Rattle.model_read.proofs.Readings.{each}
use Rattle.model_read.proofs.contents.contents_of.Goals as goal

pub loop-tree-preserved : goal.loop-tree-preserved
loop-tree-preserved c = rw c.in_ok-push_content.ensures.items
    (elements_step IsContentEntry c.args.trees.now c.loop-tree.tree-index c.tree-item.result
    c.loop-tree.contents.items c.in_ok-push_content.ensures.one c.loop-tree-test.true c.tree-item.is c.loop-tree.invariant c.in_ok-push_content.ensures.is)

pub push_content-requires : goal.push_content-requires
push_content-requires c = each IsValidContent c.args.trees.now c.loop-tree.tree-index c.tree-item.result c.requires c.loop-tree-test.true c.tree-item.is

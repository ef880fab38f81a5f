use Rattle.local_rules.specs.Declarations.{IsIdentifier}
use Rattle.model_read.specs.Machinery.Shapes.{CanBeId}
use Rattle.model_read.proofs.Grown.{elements_step}
use Rattle.model_read.proofs.Readings.{each}
use Rattle.model_read.proofs.interfaces.ids_of.Goals as goal

pub loop-tree-preserved : goal.loop-tree-preserved
loop-tree-preserved c = rw c.in_ok-push.ensures.items
    (elements_step IsIdentifier c.args.trees.now c.loop-tree.tree-index c.tree-item.result
    c.loop-tree.ids.items c.in_ok-id_of.field-0 c.loop-tree-test.true c.tree-item.is c.loop-tree.invariant c.in_ok-id_of.ensures)

pub id_of-requires : goal.id_of-requires
id_of-requires c = each CanBeId c.args.trees.now c.loop-tree.tree-index c.tree-item.result c.requires c.loop-tree-test.true c.tree-item.is

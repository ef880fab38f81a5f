use Rattle.local_rules.specs.Declarations.{IsEnumEntry}
use Rattle.model_read.specs.Machinery.Shapes.{IsValidEnumEntry}
use Rattle.model_read.proofs.Grown.{elements_step}
use Rattle.model_read.proofs.Readings.{each}
use Rattle.model_read.proofs.enums.enum_entries_of.Goals as goal

pub loop-tree-preserved : goal.loop-tree-preserved
loop-tree-preserved c = rw c.in_ok-push.ensures.items
    (elements_step IsEnumEntry c.args.trees.now c.loop-tree.tree-index c.tree-item.result
    c.loop-tree.entries.items c.in_ok-enum_entry_of.field-0 c.loop-tree-test.true c.tree-item.is c.loop-tree.invariant c.in_ok-enum_entry_of.ensures)

pub enum_entry_of-requires : goal.enum_entry_of-requires
enum_entry_of-requires c = each IsValidEnumEntry c.args.trees.now c.loop-tree.tree-index c.tree-item.result c.requires c.loop-tree-test.true c.tree-item.is

use Rattle.json_tree.specs.Values.{Json}
use Rattle.dtdl_terms.specs.TermViews.{schema_term}
use Rattle.dtdl_terms.specs.declared.schema.Schema.{Schema}
use Rattle.local_rules.specs.Declarations.{IsSchema}
use Rattle.model_read.specs.Machinery.Shapes.{IsValidSchema}
use Rattle.model_read.proofs.Grown.{elements_step}
use Rattle.model_read.proofs.Readings.{each}
use Rattle.model_read.proofs.interfaces.schemas_of.Goals as goal

pub loop-tree-preserved : goal.loop-tree-preserved
loop-tree-preserved c = rw c.in_ok-push.ensures.items
    (elements_step (λ (v : Json) (s : Schema). IsSchema (schema_term s) v) c.args.trees.now c.loop-tree.tree-index c.tree-item.result
    c.loop-tree.schemas.items c.in_ok-schema_of.field-0 c.loop-tree-test.true c.tree-item.is c.loop-tree.invariant c.in_ok-schema_of.ensures)

pub schema_of-requires : goal.schema_of-requires
schema_of-requires c = each IsValidSchema c.args.trees.now c.loop-tree.tree-index c.tree-item.result c.requires c.loop-tree-test.true c.tree-item.is

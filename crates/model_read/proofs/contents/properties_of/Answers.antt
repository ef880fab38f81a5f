use Rattle.std.proofs.Common.{List}
use Rattle.json_tree.specs.View.{elements_view}
use Rattle.json_tree.specs.declared.tree.Tree.{Tree}
use Rattle.dtdl_terms.specs.declared.content.Content.{Content}
use Rattle.dtdl_terms.specs.TermViews.{contents_term}
use Rattle.local_rules.specs.Declarations.{AreProperties}
use Rattle.model_read.proofs.Grown.{step, properties_more}
use Rattle.model_read.specs.Machinery.Shapes.{IsValidProperty}
use Rattle.model_read.proofs.Readings.{each}
use Rattle.model_read.proofs.contents.properties_of.Goals as goal

pub loop-tree-preserved : goal.loop-tree-preserved
loop-tree-preserved c = rw c.in_ok-push_property_of.ensures.items
    (step (λ (ys : List Tree) (xs : List Content). AreProperties (contents_term xs) (elements_view ys)) properties_more c.args.trees.now c.loop-tree.tree-index c.tree-item.result
    c.loop-tree.properties.items c.in_ok-push_property_of.ensures.one c.loop-tree-test.true c.tree-item.is c.loop-tree.invariant c.in_ok-push_property_of.ensures.is)

pub push_property_of-requires : goal.push_property_of-requires
push_property_of-requires c = each IsValidProperty c.args.trees.now c.loop-tree.tree-index c.tree-item.result c.requires c.loop-tree-test.true c.tree-item.is

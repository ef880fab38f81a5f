use Rattle.std.proofs.Common.{take}
use Rattle.json_tree.specs.View.{elements_view}
use Rattle.dtdl_terms.specs.TermViews.{contents_term}
use Rattle.local_rules.specs.Declarations.{AreProperties}
use Rattle.model_read.proofs.contents.properties_of.Given as goal

-- what was read so far is that of the parts so far
abbrev pub invariant-loop-tree : goal.invariant-loop-tree
invariant-loop-tree l = AreProperties (contents_term l.properties.items) (elements_view (take l.tree-index l.trees))

use Rattle.std.proofs.Common.{take}
use Rattle.std.specs.List.{AllZip}
use Rattle.json_tree.specs.View.{elements_view}
use Rattle.json_tree.specs.Members.{list_of}
use Rattle.local_rules.specs.Declarations.{IsContentEntry}
use Rattle.model_read.proofs.contents.contents_of.Given as goal

-- what was read so far is that of the parts so far
abbrev pub invariant-loop-tree : goal.invariant-loop-tree
invariant-loop-tree l = AllZip IsContentEntry (list_of (elements_view (take l.tree-index l.trees))) l.contents.items

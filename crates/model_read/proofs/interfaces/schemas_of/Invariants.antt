use Rattle.std.proofs.Common.{take}
use Rattle.std.specs.List.{AllZip}
use Rattle.json_tree.specs.View.{elements_view}
use Rattle.dtdl_terms.specs.TermViews.{schema_term}
use Rattle.json_tree.specs.Members.{list_of}
use Rattle.local_rules.specs.Declarations.{IsSchema}
use Rattle.model_read.proofs.interfaces.schemas_of.Given as goal

-- what was read so far is that of the parts so far
abbrev pub invariant-loop-tree : goal.invariant-loop-tree
invariant-loop-tree l = AllZip (λ v s. IsSchema (schema_term s) v) (list_of (elements_view (take l.tree-index l.trees))) l.schemas.items

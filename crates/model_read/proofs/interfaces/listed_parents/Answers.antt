use Rattle.json_tree.specs.View.{elements_view}
use Rattle.model_read.proofs.Seen.{of_list}
use Rattle.model_read.proofs.interfaces.listed_parents.Goals as goal

pub returns : goal.returns
returns c = of_list c.ids_of.result c.args.tree.now (elements_view c.entries_of-entries.result.now) c.entries_of-entries.ensures c.ids_of.ensures

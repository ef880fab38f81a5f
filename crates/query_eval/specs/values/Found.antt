-- What a path leads to, without where it lies in memory.
use Rattle.json_tree.specs.Values.{Json}
use Rattle.json_tree.specs.View.{view}
use Rattle.query_eval.specs.declared.values.found.Found.{Found}
use Rattle.query_eval.specs.declared.values.found.Found.TheVariants as founds

abbrev pub found_value : Found → Json
found_value (founds.Held tree) = view tree.now
found_value (founds.Made tree) = view tree

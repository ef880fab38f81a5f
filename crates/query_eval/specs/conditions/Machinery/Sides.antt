-- The value on a side of a comparison.
use Rattle.json_tree.specs.Values.{Json}
use Rattle.graph_steps.specs.Conditions.{literal_value}
use Rattle.query_eval.specs.values.Found.{found_value}
use Rattle.query_eval.specs.declared.conditions.sides.Side.{Side}
use Rattle.query_eval.specs.declared.conditions.sides.Side.TheVariants as sides

abbrev pub side_value : Side → Json
side_value (sides.Found found) = found_value found
side_value (sides.Written literal) = literal_value literal.now

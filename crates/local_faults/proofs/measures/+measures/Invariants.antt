use Rattle.std.proofs.Common.{◌+◌, ◌*◌, map, take, filter_map}
use Rattle.std.specs.Prelude.{codes}
use Rattle.std.specs.Option.{option_map}
use Rattle.json_tree.specs.Values.{array, object}
use Rattle.json_tree.specs.View.{view, elements_view, members_view}
use Rattle.json_tree.specs.Members.{value_in}
use Rattle.local_faults.specs.Machinery.Measured.{MeasuresParts}
use Rattle.local_faults.proofs.Sizes.{size, option_size}
use Rattle.local_faults.proofs.measures.+measures.Given as goal

abbrev pub decreases-measure_of : goal.decreases-measure_of
decreases-measure_of l = 4 * size (view l.tree.now) + 3

abbrev pub decreases-measure_of_fields : goal.decreases-measure_of_fields
decreases-measure_of_fields l = 4 * size (array (elements_view l.fields.now))

abbrev pub decreases-measure_of_object : goal.decreases-measure_of_object
decreases-measure_of_object l = 4 * size (object (members_view l.members.now)) + 2

abbrev pub decreases-measure_of_part : goal.decreases-measure_of_part
decreases-measure_of_part l = 4 * option_size (option_map (λ t. view t.now) l.part) + 4

abbrev pub decreases-measure_of_parts : goal.decreases-measure_of_parts
decreases-measure_of_parts l = 4 * size (object (members_view l.members.now)) + 1

-- the parts so far are measured
abbrev pub invariant-measure_of_fields-loop-field : goal.invariant-measure_of_fields-loop-field
invariant-measure_of_fields-loop-field l = MeasuresParts (members_view l.names) l.table (filter_map (value_in (codes "schema")) (map view (take l.field-index l.fields))) l.measure

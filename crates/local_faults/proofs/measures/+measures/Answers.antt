use Rattle.std.proofs.Common.{List, Option, Some, map, take, filter_map, sym, subst, arith}
use Rattle.std.specs.Prelude.{codes, option_to_list}
use Rattle.std.specs.Option.{option_map}
use Rattle.std.specs.Borrow.{Bor}
use Rattle.json_tree.specs.Values.{Json, object}
use Rattle.json_tree.specs.View.{view, members_view}
use Rattle.json_tree.specs.declared.tree.Tree.{Tree}
use Rattle.json_tree.specs.Members.{value_in}
use Rattle.local_rules.specs.Levels.{parts_by}
use Rattle.local_rules.specs.declared.role.Element.{Element}
use Rattle.local_faults.specs.Machinery.Measured.{ArePartsMeasured}
use Rattle.local_faults.proofs.Sizes.{item_smaller, part_smaller, payload_smaller, fields_no_larger}
use Rattle.local_faults.proofs.Indexed.{fields_more, fields_all}
use Rattle.local_faults.proofs.LevelSteps.{joined_parts, object_measure}
use Rattle.local_faults.proofs.Tabled.{tree_measured}
use Rattle.local_faults.proofs.measures.+measures.Goals as goal

abbrev seen : Option (Bor Tree) → Option Json
seen o = option_map (λ (t : Bor Tree). view t.now) o

pub measure_of-returns-in-Members : goal.measure_of-returns-in-Members
measure_of-returns-in-Members t c =
    tree_measured (members_view c.args.names.now) c.args.table.now c.args.tree.now c.in-Members.members c.as_slice.result.now c.measure_of_object.result
    c.in-Members.is c.as_slice.ensures c.measure_of_object.ensures

pub measure_of_fields-measure_of_part-requires : goal.measure_of_fields-measure_of_part-requires
measure_of_fields-measure_of_part-requires t c =
    let less = part_smaller (seen c.value_in.result) (codes "schema") (view c.field-item.result) c.value_in.ensures in
    let within = item_smaller c.args.fields.now c.loop-field.field-index c.field-item.result c.loop-field-test.true c.field-item.is in
    (omega (arith, c.decreases, less, within), tt)

pub measure_of_fields-loop-field-preserved : goal.measure_of_fields-loop-field-preserved
measure_of_fields-loop-field-preserved t c = λ n all.
    let ms = members_view c.args.names.now in
    let fields = c.args.fields.now in
    let at = c.loop-field.field-index in
    let under : Json → Option Json = value_in (codes "schema") in
    let P : Option Json → Type 0 = λ o. ArePartsMeasured ms n (option_to_list o) c.measure_of_part.result in
    let Q : List Json → Type 0 = λ vs. ArePartsMeasured ms n vs c.joined-measure.result in
    let part = subst P c.value_in.ensures (c.measure_of_part.ensures n all) in
    subst Q (sym (fields_more under view fields at c.field-item.result c.loop-field-test.true c.field-item.is))
    (joined_parts ms n (filter_map under (map view (take at fields))) (option_to_list (under (view c.field-item.result)))
    c.loop-field.measure c.measure_of_part.result c.joined-measure.result c.joined-measure.ensures.level c.joined-measure.ensures.reaches
    (c.loop-field.invariant n all) part)

pub measure_of_fields-returns : goal.measure_of_fields-returns
measure_of_fields-returns t c = λ n all.
    let Q : List Json → Type 0 = λ vs. ArePartsMeasured (members_view c.args.names.now) n vs c.loop-field.measure in
    subst Q (fields_all (value_in (codes "schema")) view c.args.fields.now c.loop-field.field-index c.loop-field-test.false) (c.loop-field.invariant n all)

pub measure_of_object-returns-in-Some : goal.measure_of_object-returns-in-Some
measure_of_object-returns-in-Some t c = λ n all.
    let ms = members_view c.args.names.now in
    let os = members_view c.args.members.now in
    let P : Option Element → Type 0 = λ o. ArePartsMeasured ms n (parts_by o (object os)) c.measure_of_parts.result in
    object_measure ms os c.in-Some.kind c.is_array.result c.measure_of_parts.result c.above.result n (sym c.in-Some.ensures)
    c.is_array.ensures.0 c.is_array.ensures.1 c.above.ensures.level c.above.ensures.reaches
    (subst P c.in-Some.ensures (c.measure_of_parts.ensures n all))

pub measure_of_parts-measure_of_part-requires : goal.measure_of_parts-measure_of_part-requires
measure_of_parts-measure_of_part-requires t c =
    let less = part_smaller (seen c.value_at.result) (codes "elementSchema") (object (members_view c.args.members.now)) c.value_at.ensures in
    (omega (arith, c.decreases, less), tt)

pub measure_of_parts-measure_of_part-key-requires :
    goal.measure_of_parts-measure_of_part-key-requires
measure_of_parts-measure_of_part-key-requires t c =
    let less = payload_smaller (seen c.payload_schema.result) (codes "schema") (codes "mapKey") (members_view c.args.members.now) c.payload_schema.ensures in
    (omega (arith, c.decreases, less), tt)

pub measure_of_parts-measure_of_part-value-requires :
    goal.measure_of_parts-measure_of_part-value-requires
measure_of_parts-measure_of_part-value-requires t c =
    let less = payload_smaller (seen c.payload_schema-in-Map.result) (codes "schema") (codes "mapValue") (members_view c.args.members.now) c.payload_schema-in-Map.ensures in
    (omega (arith, c.decreases, less), tt)

pub measure_of_parts-measure_of_fields-requires : goal.measure_of_parts-measure_of_fields-requires
measure_of_parts-measure_of_fields-requires t c =
    let less = fields_no_larger (map view c.entries_at.result.now) (codes "fields") (object (members_view c.args.members.now)) c.entries_at.ensures in
    (omega (arith, c.decreases, less), tt)

pub measure_of_parts-returns-in-Map : goal.measure_of_parts-returns-in-Map
measure_of_parts-returns-in-Map t c = λ n all.
    let ms = members_view c.args.names.now in
    let P : Option Json → Type 0 = λ o. ArePartsMeasured ms n (option_to_list o) c.measure_of_part-key.result in
    let Q : Option Json → Type 0 = λ o. ArePartsMeasured ms n (option_to_list o) c.measure_of_part-value.result in
    let R : Element → Type 0 = λ k. ArePartsMeasured ms n (parts_by (Some k) (object (members_view c.args.members.now))) c.joined.result in
    let key = subst P c.payload_schema.ensures (c.measure_of_part-key.ensures n all) in
    let value = subst Q c.payload_schema-in-Map.ensures (c.measure_of_part-value.ensures n all) in
    subst R (sym c.in-Map.is)
    (joined_parts ms n _ _ c.measure_of_part-key.result c.measure_of_part-value.result c.joined.result c.joined.ensures.level c.joined.ensures.reaches key value)

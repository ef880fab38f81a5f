use Rattle.std.proofs.Common.{refl}
use Rattle.json_tree.specs.View.{view, members_view}
use Rattle.local_faults.proofs.Judged.{first_array, first_none, flat_by, free_by, array_by, off_by, on_by}
use Rattle.local_faults.proofs.schemas.first_broken.Goals as goal

pub returns-then-not-measure : goal.returns-then-not-measure
returns-then-not-measure c =
    let ms = members_view c.args.names.now in
    let v = view c.args.tree.now in
    let m = c.measure_of-measure.result in
    let right = c.measure_of-measure.ensures.any 6 c.requires in
    first_none ms c.args.role v (λ u. let off = c.if-is_unknown.ensures.1 u in cc)
    (flat_by ms c.args.role v m right c.if-measure-ge-DEEP_LEVEL.false) (free_by ms c.args.role v m right c.if-measure-ge-DEEP_LEVEL.false (off_by m.reaches c.if-not-measure.true))

pub returns-then-is_of_property : goal.returns-then-is_of_property
returns-then-is_of_property c =
    let ms = members_view c.args.names.now in
    let v = view c.args.tree.now in
    let m = c.measure_of-measure.result in
    let right = c.measure_of-measure.ensures.any 6 c.requires in
    first_array ms c.args.role v (λ u. let off = c.if-is_unknown.ensures.1 u in cc)
    (flat_by ms c.args.role v m right c.if-measure-ge-DEEP_LEVEL.false) (array_by ms c.args.role v m right (c.if-is_of_property.ensures.0 refl) (on_by m.reaches c.if-not-measure.false))

pub returns : goal.returns
returns c =
    let ms = members_view c.args.names.now in
    let v = view c.args.tree.now in
    let m = c.measure_of-measure.result in
    let right = c.measure_of-measure.ensures.any 6 c.requires in
    first_none ms c.args.role v (λ u. let off = c.if-is_unknown.ensures.1 u in cc)
    (flat_by ms c.args.role v m right c.if-measure-ge-DEEP_LEVEL.false) (λ h. let off = c.if-is_of_property.ensures.1 h.0 in cc)

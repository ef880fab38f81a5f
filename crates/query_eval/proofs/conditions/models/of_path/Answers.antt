use Rattle.std.proofs.Common.{◌∙◌, arith, ap}
use Rattle.std.specs.List.{filter}
use Rattle.query_eval.specs.conditions.Machinery.Starts.{begins_so}
use Rattle.query_eval.proofs.conditions.Starts.{in_turn, between}
use Rattle.query_eval.proofs.conditions.models.of_path.Goals as goal

pub slice_bounds-result-count : goal.slice_bounds-result-count
slice_bounds-result-count c =
    in_turn c.path_start-start.result.now c.args.ids.now c.first_from.result c.first_past.result c.first_from.ensures.within c.first_from.ensures.parted c.first_past.ensures.parted

pub slice_bounds-result-start : goal.slice_bounds-result-start
slice_bounds-result-start c =
    let turn = in_turn c.path_start-start.result.now c.args.ids.now c.first_from.result c.first_past.result c.first_from.ensures.within c.first_from.ensures.parted c.first_past.ensures.parted in
    omega arith

pub returns : goal.returns
returns c =
    between c.path_start-start.result.now c.args.ids.now c.first_from.result c.first_past.result c.first_from.ensures.within c.first_from.ensures.parted c.first_past.ensures.parted
    ∙ ap (λ s. filter (begins_so s) c.args.ids.now) c.path_start-start.ensures

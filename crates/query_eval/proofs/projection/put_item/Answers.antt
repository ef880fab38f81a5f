use Rattle.std.proofs.Common.{List, ℕ, sym, ap, ◌∙◌}
use Rattle.std.specs.Option.{option_map}
use Rattle.json_tree.specs.Values.{Json}
use Rattle.json_tree.specs.View.{view}
use Rattle.twin_patch.specs.Objects.{with_member}
use Rattle.graph_steps.specs.Conditions.{path_value}
use Rattle.query_eval.specs.values.Found.{found_value}
use Rattle.query_eval.specs.values.Rows.{row_view}
use Rattle.query_eval.specs.Machinery.Seen.{values_view}
use Rattle.query_eval.proofs.Items.{inserted, with_value}
use Rattle.query_eval.proofs.projection.put_item.Goals as goal

pub returns : goal.returns
returns c =
    let row = row_view c.args.row.now in
    let ms = values_view c.args.values.now.entries in
    let found = found_value c.in-Some.found in
    ap values_view c.in_ok-old.ensures.entries
    ∙ inserted c.in-Ok.name c.in_ok-value.value c.args.values.now.entries
    ∙ ap (λ (name : List ℕ). with_member name (view c.in_ok-value.value) ms) c.in-Ok.ensures
    ∙ ap (λ (v : Json). with_member c.args.item.now.out v ms) c.in_ok-value.ensures
    ∙ sym (with_value row c.args.item.now ms found (ap (option_map found_value) (sym c.in-Some.is) ∙ c.in_ok-found.ensures ∙ ap (path_value row) c.as_slice.ensures))

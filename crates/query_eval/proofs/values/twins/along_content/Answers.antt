use Rattle.std.proofs.Common.{◌∙◌, ℕ, List, sym, ap}
use Rattle.json_tree.specs.View.{view}
use Rattle.json_tree.specs.Members.{value_in}
use Rattle.graph_steps.specs.bodies.Kept.{twin_view}
use Rattle.query_eval.proofs.values.twins.along_content.Goals as goal

pub along_part-requires : goal.along_part-requires
along_part-requires c =
    c.kept_part.ensures (twin_view c.args.twin.now) c.args.name.now (view c.in-Some-value_in.values.now) c.requires
    (ap (λ (n : List ℕ). value_in n (view c.args.twin.now.parts)) (sym c.as_str-2.ensures) ∙ sym c.in-Some-value_in.ensures)

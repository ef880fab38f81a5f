use Rattle.json_tree.specs.View.{view}
use Rattle.twin_value.specs.Breaches.{IsModelId}
use Rattle.twin_value.specs.Twins.{model_text}
use Rattle.twin_value.proofs.Bodies.{model_wants_memory}
use Rattle.graph_judges.proofs.twins.Named.{outer_model, some_and}
use Rattle.graph_judges.proofs.twins.models.model_of.Goals as goal

pub model_text-requires : goal.model_text-requires
model_text-requires c = some_and (model_text (view c.args.tree.now)) (λ model. (IsModelId model → ⊥) → ⊥) (outer_model (view c.args.tree.now) c.requires)

pub want_of_memory-requires : goal.want_of_memory-requires
want_of_memory-requires c =
    model_wants_memory (view c.args.tree.now) c.model_text.result.now c.in-Err.fault (outer_model (view c.args.tree.now) c.requires) c.model_text.ensures c.in-Err.ensures

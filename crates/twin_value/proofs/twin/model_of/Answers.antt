use Rattle.json_tree.specs.View.{view}
use Rattle.twin_value.proofs.Bodies.{model_wants_memory}
use Rattle.twin_value.proofs.twin.model_of.Goals as goal

pub want_of_memory-requires : goal.want_of_memory-requires
want_of_memory-requires c = model_wants_memory (view c.args.tree.now) c.model_text-text.result.now c.in-Err.fault c.requires c.model_text-text.ensures c.in-Err.ensures

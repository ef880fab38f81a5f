use Rattle.std.proofs.Common.{◌≡◌, ◌++◌, map}
use Rattle.json_tree.specs.View.{view}
use Rattle.dtdl_terms.specs.Sets.{keyed}
use Rattle.model_life.specs.Models.{interfaces_of}
use Rattle.graph_machine.specs.Machinery.Marks.{entry_json}
use Rattle.graph_machine.proofs.list_models.marks.Given as goal

-- the trees so far, and those that are still to come
abbrev pub invariant-models : goal.invariant-models
invariant-models l = map view l.trees.items ++ map (entry_json l.models) l.id-iterator ≡ map (entry_json l.models) (keyed (interfaces_of l.models))

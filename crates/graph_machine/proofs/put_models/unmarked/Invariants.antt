use Rattle.std.proofs.Common.{◌≡◌, ◌++◌, map}
use Rattle.std.specs.Map.{keys_of}
use Rattle.json_tree.specs.View.{view}
use Rattle.graph_machine.specs.Machinery.Marks.{unmarked}
use Rattle.graph_machine.proofs.put_models.unmarked.Given as goal

-- the trees so far, and those that are still to come
abbrev pub invariant-ids : goal.invariant-ids
invariant-ids l = map view l.trees.items ++ map unmarked (keys_of l.id-iterator) ≡ map unmarked (keys_of l.ids.entries)

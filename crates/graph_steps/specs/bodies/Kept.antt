-- Twins and relationships as a graph keeps them, whose values are trees.
use Rattle.std.specs.Prelude.{◌≡◌}
use Rattle.json_tree.specs.Values.{Json, HasDistinctKeys}
use Rattle.json_tree.specs.View.{view}
use Rattle.json_tree.specs.declared.tree.Tree.{Tree}
use Rattle.rel_graph.specs.declared.edge.Edge.{Edge}
use Rattle.twin_patch.specs.Objects.{sorted_value}
use Rattle.twin_value.specs.Twins.{with_metadata}
use Rattle.twin_value.specs.declared.twin.Twin as values
use Rattle.graph_steps.specs.States.{Twin, Link, twin_object, link_object}

-- The twin, and the relationship, without where their values lie in memory.
abbrev pub twin_view : values.Twin → Twin
twin_view t = record { id = t.id; model = t.model; values = view t.values; parts = view t.parts }

abbrev pub link_view : Edge Tree → Link
link_view e = record { source = e.source; id = e.id; name = e.name; target = e.target; payload = view e.payload }

-- The members of each object, at every depth, stand in the order of their keys, and no key stands twice in one.
abbrev pub IsSorted : Json → Type 0
IsSorted v = sorted_value v ≡ v

-- Its values and components are sorted, and no object in what is printed of it has two members of one key.
pub record IsKeptTwin (t : Twin) : Type 0 where
  pub values : IsSorted t.values
  pub parts : IsSorted t.parts
  pub distinct : HasDistinctKeys (twin_object t)

pub record IsKeptLink (l : Link) : Type 0 where
  pub payload : IsSorted l.payload
  pub distinct : HasDistinctKeys (link_object l)

pub record IsKeptPart (v : Json) : Type 0 where
  pub sorted : IsSorted v
  pub distinct : HasDistinctKeys (with_metadata v)

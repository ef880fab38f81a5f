-- The lesser of two edges.
use Rattle.std.specs.Prelude.{Option, Some, None, cond}
use Rattle.std.specs.Ordering.{is_lt}
use Rattle.rel_graph.specs.Edges.{key_cmp, key}
use Rattle.rel_graph.specs.declared.edge.Edge.{Edge}

-- where there are two, else the one that there is
abbrev pub least_of : {P : Type 0} → Option (Edge P) → Option (Edge P) → Option (Edge P)
least_of None b = b
least_of (Some a) None = Some a
least_of (Some a) (Some b) = Some (cond (is_lt (key_cmp (key b) (key a))) b a)

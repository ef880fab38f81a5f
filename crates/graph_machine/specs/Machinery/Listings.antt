-- The edges that a listing goes through.
use Rattle.std.specs.Prelude.{ℕ, List, Option, Some, None}
use Rattle.rel_graph.specs.Edges.{out_of, into_of, out_past, into_past}
use Rattle.rel_graph.specs.declared.edge.Edge.{Edge}

abbrev pub raw_out : {P : Type 0} → List ℕ → Option (List ℕ) → List (Edge P) → List (Edge P)
raw_out source None es = out_of source es
raw_out source (Some id) es = out_past source id es

abbrev pub raw_into : {P : Type 0} → List ℕ → Option (List ℕ × List ℕ) → List (Edge P) → List (Edge P)
raw_into target None es = into_of target es
raw_into target (Some past) es = into_past target past es

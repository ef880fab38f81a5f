-- Edges whose payloads are seen as other values: the parts of their list that a listing takes are the same parts.
use Rattle.std.proofs.Common.{◌≡◌, ℕ, List, map, Option, Some, None, sym, ap, ◌∙◌}
use Rattle.std.specs.Ordering.{nat_cmp, is_lt}
use Rattle.std.specs.Cmp.Lexicographic.{slice_cmp}
use Rattle.std.specs.List.{filter}
use Rattle.rel_graph.specs.declared.edge.Edge.{Edge}
use Rattle.rel_graph.specs.Edges.{key_cmp, key, is_from, is_into, out_of, into_of, out_past, into_past}
use Rattle.graph_steps.proofs.twins.Mapped.{filter-map}
use Rattle.graph_steps.specs.paging.Rows.{is_edge_called}

module _ {P Q : Type 0} (f : P → Q) where
  abbrev pub seen : Edge P → Edge Q
  seen e = record { source = e.source; id = e.id; name = e.name; target = e.target; payload = f e.payload }

  pub map-out_of : (source : List ℕ) (es : List (Edge P)) → map seen (out_of source es) ≡ out_of source (map seen es)
  map-out_of source es = filter-map seen (is_from source) es

  pub map-into_of : (target : List ℕ) (es : List (Edge P)) → map seen (into_of target es) ≡ into_of target (map seen es)
  map-into_of target es = filter-map seen (is_into target) es

  pub map-out_past : (source id : List ℕ) (es : List (Edge P)) → map seen (out_past source id es) ≡ out_past source id (map seen es)
  map-out_past source id es =
      filter-map seen (λ e. is_lt (slice_cmp nat_cmp id e.id)) (out_of source es) ∙ ap (filter (λ e. is_lt (slice_cmp nat_cmp id e.id))) (map-out_of source es)

  pub map-into_past : (target : List ℕ) (past : List ℕ × List ℕ) (es : List (Edge P)) → map seen (into_past target past es) ≡ into_past target past (map seen es)
  map-into_past target past es =
      filter-map seen (λ e. is_lt (key_cmp past (key e))) (into_of target es) ∙ ap (filter (λ e. is_lt (key_cmp past (key e)))) (map-into_of target es)

  pub map-called : (name : Option (List ℕ)) (es : List (Edge P)) → map seen (filter (is_edge_called name) es) ≡ filter (is_edge_called name) (map seen es)
  map-called None es = filter-map seen (is_edge_called None) es
  map-called (Some name) es = filter-map seen (is_edge_called (Some name)) es

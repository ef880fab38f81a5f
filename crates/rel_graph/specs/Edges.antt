-- Edges as a list in the order of their keys, which are source and id.
use Rattle.std.specs.Prelude.{ℕ, List, Bool, Option, map}
use Rattle.std.specs.declared.cmp.Ordering.{Ordering}
use Rattle.std.specs.Ordering.{nat_cmp, is_eq, is_lt}
use Rattle.std.specs.Cmp.Lexicographic.{slice_cmp}
use Rattle.std.specs.List.{filter, count_by}
use Rattle.std.specs.List.Sorted.{IsStrictlySortedBy}
use Rattle.std.specs.Map.{lookup, remove_entry, values_of}
use Rattle.std.specs.BTreeMap.{is_at, insert_entry}
use Rattle.ordered_table.specs.Rows.{pair_cmp}
use Rattle.rel_graph.specs.declared.edge.Edge.{Edge}

-- the order of two texts: by the bytes of the first, and then by those of the second
abbrev pub key_cmp : List ℕ × List ℕ → List ℕ × List ℕ → Ordering
key_cmp = pair_cmp (slice_cmp nat_cmp)

module _ {P : Type 0} where
  abbrev pub key : Edge P → List ℕ × List ℕ
  key e = (e.source, e.id)

  -- each edge under its key
  abbrev pub keyed : List (Edge P) → List ((List ℕ × List ℕ) × Edge P)
  keyed es = map (λ e. (key e, e)) es

  -- the keys ascend, so that no two edges have one key
  abbrev pub EdgesInOrder : List (Edge P) → Type 0
  EdgesInOrder es = IsStrictlySortedBy key_cmp (map key es)

  -- the edge with this key
  abbrev pub edge_at : List ℕ → List ℕ → List (Edge P) → Option (Edge P)
  edge_at source id es = lookup (is_at (key_cmp (source, id))) (keyed es)

  -- with e at its place, or in the place of the edge with its key
  abbrev pub with_edge : Edge P → List (Edge P) → List (Edge P)
  with_edge e es = values_of (insert_entry key_cmp (keyed es) (key e) e)

  -- without the edge with this key
  abbrev pub without_edge : List ℕ → List ℕ → List (Edge P) → List (Edge P)
  without_edge source id es = values_of (remove_entry (is_at (key_cmp (source, id))) (keyed es))

  abbrev pub is_from : List ℕ → Edge P → Bool
  is_from source e = is_eq (slice_cmp nat_cmp source e.source)

  abbrev pub is_into : List ℕ → Edge P → Bool
  is_into target e = is_eq (slice_cmp nat_cmp target e.target)

  -- the edge has this source and this name
  abbrev pub is_named : List ℕ × List ℕ → Edge P → Bool
  is_named source_and_name e = is_eq (key_cmp source_and_name (e.source, e.name))

  -- the edges of a source, and of a target
  abbrev pub out_of : List ℕ → List (Edge P) → List (Edge P)
  out_of source es = filter (is_from source) es

  abbrev pub into_of : List ℕ → List (Edge P) → List (Edge P)
  into_of target es = filter (is_into target) es

  -- those whose ids are past an id, and those whose source and id are past a source and an id
  abbrev pub out_past : List ℕ → List ℕ → List (Edge P) → List (Edge P)
  out_past source id es = filter (λ e. is_lt (slice_cmp nat_cmp id e.id)) (out_of source es)

  abbrev pub into_past : List ℕ → List ℕ × List ℕ → List (Edge P) → List (Edge P)
  into_past target source_and_id es = filter (λ e. is_lt (key_cmp source_and_id (key e))) (into_of target es)

  -- how many edges of a source have this name
  abbrev pub named : List ℕ → List ℕ → List (Edge P) → ℕ
  named source name es = count_by (is_named (source, name)) es

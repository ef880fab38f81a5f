-- The rows of pages.
use Rattle.std.specs.Prelude.{ℕ, List, [], ◌∷◌, Bool, true, Option, Some, None, codes, bytes_eq}
use Rattle.json_decimal.specs.Number.{Number}
use Rattle.json_tree.specs.Values.{Json, text, array, object, elements_of, Members, no_members, member}
use Rattle.rel_graph.specs.declared.edge.Edge.{Edge}

-- the edge has this name, where one is asked for
abbrev pub is_edge_called : {P : Type 0} → Option (List ℕ) → Edge P → Bool
is_edge_called None e = true
is_edge_called (Some name) e = bytes_eq e.name name

-- the entry of an edge in a list of those out of a vertex, and of those into one, where an edge is given as a tree
module _ {P : Type 0} (tree : Edge P → Json) where
  abbrev pub out_entry : Edge P → List (List ℕ) × Json
  out_entry e = (e.id ∷ [], tree e)

  abbrev pub into_entry : Edge P → List (List ℕ) × Json
  into_entry e = (e.source ∷ e.id ∷ [], tree e)

-- the member of a page with its rows
abbrev pub rows_member : List Json → Members Number
rows_member rows = member (codes "value") (array (elements_of rows)) no_members

-- the page of these rows, with this token
abbrev pub page_of : Option (List ℕ) → List Json → Json
page_of None rows = object (rows_member rows)
page_of (Some token) rows = object (member (codes "continuationToken") (text token) (rows_member rows))

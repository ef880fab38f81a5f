-- The asks for pages of a twin's relationships.
use Rattle.std.specs.Prelude.{ℕ, List, [], ◌∷◌, map, Bool, true, Option, Some, None, bytes_eq}
use Rattle.std.specs.List.{filter}
use Rattle.rel_graph.specs.Edges.{out_of, into_of, out_past, into_past}
use Rattle.graph_asks.specs.Answers.{Answer, body}
use Rattle.graph_steps.specs.Pages.{page_value}
use Rattle.graph_steps.specs.States.{State, Link, link_value}

-- those out of a twin, past an id where one is given
abbrev pub out_links : State → List ℕ → Option (List ℕ) → List Link
out_links s source None = out_of source s.links
out_links s source (Some id) = out_past source id s.links

abbrev pub is_link_called : Option (List ℕ) → Link → Bool
is_link_called None l = true
is_link_called (Some name) l = bytes_eq l.name name

abbrev pub into_links : State → List ℕ → Option (List ℕ × List ℕ) → List Link
into_links s target None = into_of target s.links
into_links s target (Some past) = into_past target past s.links

-- Out of a twin, the key is the id; into it, it is the source and the id.
abbrev pub listed_out : State → List ℕ → Option (List ℕ) → Option (List ℕ) → Answer
listed_out s source name after =
    body (page_value (map (λ l. (l.id ∷ [], link_value l)) (filter (is_link_called name) (out_links s source after))))

abbrev pub listed_in : State → List ℕ → Option (List ℕ × List ℕ) → Answer
listed_in s target after = body (page_value (map (λ l. (l.source ∷ l.id ∷ [], link_value l)) (into_links s target after)))

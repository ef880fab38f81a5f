-- The graph that requests leave of an empty one, and the lines of its counts.
use Rattle.std.specs.Prelude.{◌≡◌, ℕ, List, [], ◌∷◌, ◌++◌, length, Option, option_to_list, codes}
use Rattle.std.specs.Fmt.{decimal}
use Rattle.http_ends.specs.declared.request.Request.{Request}
use Rattle.http_ends.specs.declared.response.Response.{Response}
use Rattle.http_session.specs.Answers.{IsAnswered}
use Rattle.query_terms.specs.Queries.{Asked}
use Rattle.query_grammar.specs.Spelled.{SpellsQuery}
use Rattle.graph_steps.specs.QueryAsks.{kept_rows}
use Rattle.graph_steps.specs.States.{State, empty}
use Rattle.graph_server.specs.Entries.{Entry, own_response, enters, IsLegalHistory}
use Rattle.dtdl_cmd.specs.making.Requests.{requests}

-- A request is answered as a replay answers it: its own bytes decide a refusal, and the graph is as before; or it makes an ask,
-- which is the next entry of a legal history of the graph.
abbrev pub IsMadeStep : State → Request → State → Type 0
IsMadeStep s request t = (entry : Option Entry) × (response : Response) × IsAnswered own_response enters request entry response × IsLegalHistory s (option_to_list entry) t

-- The requests lead from one graph to another, one after the other.
abbrev pub RequestsLead : State → List Request → State → Type 0
RequestsLead s [] t = t ≡ s
RequestsLead s (r ∷ rs) t = (m : State) × IsMadeStep s r m × RequestsLead m rs t

-- The text is a query, which keeps so many rows.
abbrev pub HasCount : State → List ℕ → ℕ → Type 0
HasCount s text n = (q : Asked) × SpellsQuery text q × (n ≡ length (kept_rows s q))

abbrev pub twins_text : List ℕ
twins_text = codes "SELECT COUNT() FROM DIGITALTWINS"

abbrev pub relationships_text : List ℕ
relationships_text = codes "SELECT COUNT() FROM RELATIONSHIPS"

abbrev pub spaces_text : List ℕ
spaces_text = codes "SELECT COUNT() FROM DIGITALTWINS WHERE IS_OF_MODEL('dtmi:demo:Space;1')"

abbrev pub hot_text : List ℕ
hot_text = codes "SELECT COUNT() FROM DIGITALTWINS r JOIN s RELATED r.hasSensor WHERE s.reading > 5"

abbrev pub lines : ℕ → ℕ → ℕ → ℕ → List ℕ
lines twins relationships spaces hot =
    codes "twins " ++ (decimal twins ++ (codes "\nrelationships " ++ (decimal relationships ++ (codes "\nspaces " ++ (decimal spaces ++ (codes "\nhot " ++ (decimal hot ++ codes "\n")))))))

-- The lines of the counts of a graph.
pub record Counts (s : State) (text : List ℕ) : Type 0 where
  pub twins : ℕ
  pub relationships : ℕ
  pub spaces : ℕ
  pub hot : ℕ
  pub of_twins : HasCount s twins_text twins
  pub of_relationships : HasCount s relationships_text relationships
  pub of_spaces : HasCount s spaces_text spaces
  pub of_hot : HasCount s hot_text hot
  pub is : text ≡ lines twins relationships spaces hot

-- The lines of the counts of the graph of so many rooms.
abbrev pub IsMade : ℕ → List ℕ → Type 0
IsMade n text = (s : State) × RequestsLead empty (requests n) s × Counts s text

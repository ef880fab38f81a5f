-- Codes of values, by which proofs tell them apart.
use Rattle.std.specs.Prelude.{ℕ, List, refl}
use Rattle.std.specs.Coded.{Coded, code_by, coded×, coded_list, coded_ℕ}
use Rattle.json_tree.specs.declared.tree.Tree.{Tree}
use Rattle.json_tree.specs.contracts.tree.Tree as tree_row
use Rattle.rel_graph.specs.declared.edge.Edge.{Edge}
use Rattle.graph_steps.specs.declared.twins.held.Held.{Held}
use Rattle.graph_steps.specs.contracts.twins.held.Held as held_row
use Rattle.model_life.specs.Models.{Model}
use Rattle.model_life.specs.Machinery.Codes.{model_code}
use Rattle.graph_steps.specs.declared.held.stored.Stored.{Stored}
use Rattle.graph_steps.specs.held.Held.{Holding, holding}

abbrev coded_text : Coded (List ℕ)
coded_text = coded_list coded_ℕ

abbrev Parts : Type 0
Parts = ((List ℕ × List ℕ) × (List ℕ × List ℕ)) × (Tree × ℕ)

abbrev edge_code : Coded (Edge Stored)
edge_code =
    code_by Parts (coded× (coded× (coded× coded_text coded_text) (coded× coded_text coded_text)) (coded× tree_row.the_row.coded coded_ℕ))
    (λ e. (((e.source, e.id), (e.name, e.target)), (e.payload.values, e.payload.bytes)))
    (λ p. record { source = p.0.0.0; id = p.0.0.1; name = p.0.1.0; target = p.0.1.1; payload = record { values = p.1.0; bytes = p.1.1 } })
    (λ _. refl)

abbrev pub holding_code : Coded Holding
holding_code =
    code_by ((List Model × List Held) × List (Edge Stored)) (coded× (coded× (coded_list model_code) (coded_list held_row.the_row.coded)) (coded_list edge_code))
    (λ h. ((h.models, h.twins), h.links)) (λ p. holding p.0.0 p.0.1 p.1) (λ _. refl)

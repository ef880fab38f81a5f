-- The least of what would not be well typed.
use Rattle.std.specs.Prelude.{ℕ, List, Option, Some, None, IsTrue}
use Rattle.std.specs.Ordering.{is_lt}
use Rattle.dtdl_terms.specs.declared.uploaded.Uploaded.{Uploaded}
use Rattle.rel_graph.specs.Edges.{key_cmp, key}
use Rattle.rel_graph.specs.declared.edge.Edge.{Edge}
use Rattle.graph_asks.specs.declared.refusal.Refusal.{Refusal}
use Rattle.graph_asks.specs.declared.refusal.Refusal.TheVariants as refusals
use Rattle.graph_steps.specs.ModelAsks.{TwinDoesNotFit}
use Rattle.graph_steps.specs.States.{State, Link}
use Rattle.graph_steps.specs.TwinAsks.{WouldBeIll}
use Rattle.graph_steps.specs.held.Held.{link_of}
use Rattle.graph_steps.specs.declared.held.stored.Stored.{Stored}

-- The least relationship with the twin as an end that would not be well typed in the new state, or that there is none.
abbrev pub IsLeastIll : State → List ℕ → Option (Edge Stored) → Type 0
IsLeastIll new id None = (l : Link) → WouldBeIll new id l → ⊥
IsLeastIll new id (Some e) = WouldBeIll new id (link_of e) × ((other : Link) → WouldBeIll new id other → IsTrue (is_lt (key_cmp (key other) (key (link_of e)))) → ⊥)

-- The id of the least twin for which the models that come are refused, or that they are refused for none.
abbrev pub IsLeastMisfit : State → List Uploaded → Option (List ℕ) → Type 0
IsLeastMisfit old new None = (r : Refusal) → TwinDoesNotFit old new r → ⊥
IsLeastMisfit old new (Some id) = TwinDoesNotFit old new (refusals.TwinDoesNotFit id)

-- What a judge lets come: nothing refuses the ask, it is what the ask changes, and it can be kept; of a relationship also what
-- is printed of it.
use Rattle.std.specs.Prelude.{◌≡◌, ℕ, List}
use Rattle.json_tree.specs.View.{view}
use Rattle.json_tree.specs.declared.tree.Tree.{Tree}
use Rattle.rel_graph.specs.declared.edge.Edge.{Edge}
use Rattle.twin_value.specs.declared.twin.Twin.{Twin}
use Rattle.graph_asks.specs.declared.ask.Ask.{Ask}
use Rattle.graph_asks.specs.declared.refusal.Refusal.{Refusal}
use Rattle.graph_steps.specs.bodies.Kept.{twin_view}
use Rattle.graph_steps.specs.LinkAsks.{with_link}
use Rattle.graph_steps.specs.States.{State, link_value, with_twin}
use Rattle.graph_steps.specs.Steps.{Refuses, changed}
use Rattle.graph_steps.specs.held.Held.{link_of, IsHeldTwin, IsHeldLink}
use Rattle.graph_steps.specs.declared.held.stored.Stored.{Stored}

-- a twin of this id, with how many bytes its text has
pub record BringsTwin (s : State) (ask : Ask) (id : List ℕ) (twin : Twin) (bytes : ℕ) : Type 0 where
  pub free : (r : Refusal) → Refuses s ask r → ⊥
  pub put : with_twin (twin_view twin) s ≡ changed s ask
  pub own : twin.id ≡ id
  pub held : IsHeldTwin (record { twin = twin; bytes = bytes })

-- a relationship of this source and id, and what is printed of it
pub record BringsLink (s : State) (ask : Ask) (source id : List ℕ) (edge : Edge Stored) (tree : Tree) : Type 0 where
  pub free : (r : Refusal) → Refuses s ask r → ⊥
  pub put : with_link (link_of edge) s ≡ changed s ask
  pub from : edge.source ≡ source
  pub own : edge.id ≡ id
  pub held : IsHeldLink edge
  pub printed : view tree ≡ link_value (link_of edge)

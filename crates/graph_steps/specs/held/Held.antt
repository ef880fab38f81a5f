-- What a machine holds, the state that it is, and what holds of all that it holds.
use Rattle.std.specs.Prelude.{◌≡◌, ℕ, List, map, length}
use Rattle.std.specs.List.{AllByRecursion, sum_by}
use Rattle.dt_base.specs.names.Grammar.{Identifier}
use Rattle.json_tree.specs.View.{view}
use Rattle.dtdl_terms.specs.declared.resolved.Resolved.{Resolved}
use Rattle.rel_graph.specs.declared.edge.Edge.{Edge}
use Rattle.graph_steps.specs.declared.twins.held.Held.{Held}
use Rattle.model_life.specs.resolution.Resolving.{HoldsRight}
use Rattle.model_life.specs.Models.{Model, interfaces_of}
use Rattle.graph_steps.specs.States.{State, Twin, Link, twin_text, link_text}
use Rattle.graph_steps.specs.Typed.{WellTyped}
use Rattle.graph_steps.specs.bodies.Kept.{twin_view, IsKeptTwin, IsKeptLink}
use Rattle.graph_steps.specs.declared.held.stored.Stored.{Stored}

-- The models, the twins and the relationships, each twin and relationship with how many bytes its text has.
pub record Holding : Type 0 where
  pub models : List Model
  pub twins : List Held
  pub links : List (Edge Stored)

abbrev pub holding : List Model → List Held → List (Edge Stored) → Holding
holding ms ts ls = record { models = ms; twins = ts; links = ls }

-- A twin and a relationship, without where their values lie in memory and without their sizes.
abbrev pub twin_of : Held → Twin
twin_of h = twin_view h.twin

abbrev pub link_of : Edge Stored → Link
link_of e = record { source = e.source; id = e.id; name = e.name; target = e.target; payload = view e.payload.values }

-- The state that a machine is.
abbrev pub state_of : Holding → State
state_of h = record { models = h.models; twins = map twin_of h.twins; links = map link_of h.links }

-- A twin and a relationship can be printed, and their size is that of their text.
pub record IsHeldTwin (h : Held) : Type 0 where
  pub kept : IsKeptTwin (twin_of h)
  pub size : h.bytes ≡ length (twin_text (twin_of h))

pub record IsHeldLink (e : Edge Stored) : Type 0 where
  pub kept : IsKeptLink (link_of e)
  pub size : e.payload.bytes ≡ length (link_text (link_of e))

-- The sizes of all relationships together.
abbrev pub link_bytes : List (Edge Stored) → ℕ
link_bytes es = sum_by (λ e. e.payload.bytes) es

-- What is kept of twins and relationships is right, and this is the sum of the relationships' sizes.
pub record IsHeldRight (h : Holding) (bytes : ℕ) : Type 0 where
  pub twins : AllByRecursion IsHeldTwin h.twins
  pub links : AllByRecursion IsHeldLink h.links
  pub sum : bytes ≡ link_bytes h.links

-- What holds of a machine with these resolutions and this sum of sizes: it is well typed, what is resolved is right for its
-- models, and what is kept of twins and relationships is right.
pub record HoldsTogether (h : Holding) (resolutions : List (Identifier × Resolved)) (bytes : ℕ) : Type 0 where
  pub typed : WellTyped (state_of h)
  pub right : HoldsRight (interfaces_of h.models) resolutions
  pub held : IsHeldRight h bytes

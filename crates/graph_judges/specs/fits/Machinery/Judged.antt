-- What is asked of one relationship, and of one twin.
use Rattle.std.specs.Prelude.{◌≡◌, ◌⊎◌, ℕ, List, Option, Some, Contains, IsSome, IsTrue}
use Rattle.dt_base.specs.names.Grammar.{Identifier}
use Rattle.dtdl_terms.specs.Terms.{KindTerm}
use Rattle.dtdl_terms.specs.TermViews.{kind_term}
use Rattle.dtdl_terms.specs.declared.interface.Interface.{Interface}
use Rattle.dtdl_terms.specs.declared.resolved.ResolvedContent.{ResolvedContent}
use Rattle.dtdl_terms.specs.declared.uploaded.Uploaded.{Uploaded}
use Rattle.rel_graph.specs.Edges.{named}
use Rattle.graph_steps.specs.twins.Held.{of_model, TwinsInOrder}
use Rattle.twin_value.specs.Breaches.{link_called}
use Rattle.twin_value.specs.declared.twin.Twin as values
use Rattle.graph_steps.specs.States.{State, Twin, Link, interface_of, twin_at, is_end, with_twin}
use Rattle.graph_steps.specs.Typed.{target_of, most_of, SuitsTarget, IsAtMost, TwinIsTyped, LinkIsTyped}
use Rattle.graph_steps.specs.bodies.Kept.{twin_view, IsKeptTwin}
use Rattle.graph_steps.specs.held.Held.{Holding, state_of}

-- with the twin in the place of the one with its id
abbrev pub with_given : values.Twin → Holding → State
with_given t h = with_twin (twin_view t) (state_of h)

-- ---- relationships
-- The twin with an id, where there is one, suits a declared target.
abbrev pub SuitsDeclared : State → List ℕ → Option Identifier → Type 0
SuitsDeclared s id declared = (t : Twin) → twin_at id s ≡ Some t → SuitsTarget s declared t

-- What the relationship leads to suits the declared target, and there are not too many of its name.
abbrev pub SuitsKind : State → KindTerm → Link → Type 0
SuitsKind s k l = SuitsDeclared s l.target (target_of k) × IsAtMost (most_of k) (named l.source l.name s.links)

-- A relationship of its name is declared, and it suits this.
abbrev pub SuitsAmong : State → List ResolvedContent → Link → Type 0
SuitsAmong s cs l = (c : ResolvedContent) × (link_called l.name cs ≡ Some c) × SuitsKind s (kind_term c.content.kind) l

-- ---- twins
-- The twin does not fit its model, or is an end of a relationship that is not well typed.
abbrev pub Misfits : State → Twin → Type 0
Misfits s t = (TwinIsTyped s t → ⊥) ⊎ ((l : Link) × Contains s.links l × IsTrue (is_end t.id l) × (LinkIsTyped s l → ⊥))

-- a twin of a model that is there
abbrev pub MisfitsOf : Holding → Identifier → values.Twin → Type 0
MisfitsOf h model t = IsSome (interface_of (state_of h) model) × Contains (of_model model h.twins) t × Misfits (state_of h) (twin_view t)

-- a twin of one of the models that come
abbrev pub MisfitsAmong : Holding → List Uploaded → values.Twin → Type 0
MisfitsAmong h us t = (u : Uploaded) × Contains us u × MisfitsOf h u.interface.id t

-- The twin is there, with this interface as its model.
pub record StandsLive (h : Holding) (i : Interface) (t : values.Twin) : Type 0 where
  pub model : interface_of (state_of h) t.model ≡ Some i
  pub own : interface_of (state_of h) i.id ≡ Some i
  pub there : twin_at t.id (state_of h) ≡ Some (twin_view t)
  pub ordered : TwinsInOrder h.twins
  pub kept : IsKeptTwin (twin_view t)

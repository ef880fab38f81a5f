-- Bodies that are judged by what a model of a graph has.
use Rattle.std.specs.Prelude.{◌≡◌, Some}
use Rattle.dtdl_terms.specs.declared.interface.Interface.{Interface}
use Rattle.dtdl_terms.specs.declared.resolved.Resolved.{Resolved}
use Rattle.extend_resolve.specs.Breaches.{BreaksNoRule}
use Rattle.model_life.specs.resolution.Resolving.{IsResolved}
use Rattle.graph_asks.specs.declared.refusal.Refusal.{Refusal}
use Rattle.graph_steps.specs.States.{State, set_of, interface_of}
use Rattle.graph_steps.specs.declared.bodies.failure.BodyFailure.{BodyFailure}
use Rattle.graph_steps.specs.declared.bodies.failure.BodyFailure.TheVariants as failures

-- The models of the graph break no rule, the interface is one of them, and this is what it has with all that it inherits
-- and with what its components consist of.
pub record IsModelIn (s : State) (i : Interface) (r : Resolved) : Type 0 where
  pub rules : BreaksNoRule (set_of s)
  pub there : interface_of s i.id ≡ Some i
  pub resolved : IsResolved (set_of s) i r

-- A refusal of this kind, or want of memory.
abbrev pub FailsBy : (Refusal → Type 0) → BodyFailure → Type 0
FailsBy Refuses (failures.Refused refusal) = Refuses refusal
FailsBy Refuses failures.OutOfMemory = Unit {0}

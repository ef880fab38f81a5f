use Rattle.std.proofs.Common.{Option}
use Rattle.std.specs.List.{AllByRecursion}
use Rattle.model_life.specs.resolution.Resolving.{HoldsRight}
use Rattle.rel_graph.specs.declared.edge.Edge.{Edge}
use Rattle.graph_steps.specs.bodies.Kept.{IsKeptLink}
use Rattle.graph_steps.specs.States.{set_of}
use Rattle.graph_steps.specs.Typed.{LinkIsTyped}
use Rattle.graph_steps.specs.held.Held.{link_of, state_of}
use Rattle.graph_steps.specs.declared.held.stored.Stored.{Stored}
use Rattle.graph_judges.specs.fits.Machinery.Firsts.{IsFirstOf}
use Rattle.graph_judges.specs.fits.Machinery.Judged.{with_given}
use Rattle.graph_judges.proofs.fits.ends.first_ill.Given as goal

-- the first of those that are still to come is the first of all
abbrev pub invariant-edges : goal.invariant-edges
invariant-edges g l =
    ((o : Option (Edge Stored)) → IsFirstOf (λ e. LinkIsTyped (with_given l.twin l.lent) (link_of e) → ⊥) l.edge-iterator o → IsFirstOf (λ e. LinkIsTyped (with_given l.twin l.lent) (link_of e) → ⊥) l.fn.listing o)
    × AllByRecursion (λ e. IsKeptLink (link_of e)) l.edge-iterator
    × HoldsRight (set_of (state_of l.lent)) l.resolutions

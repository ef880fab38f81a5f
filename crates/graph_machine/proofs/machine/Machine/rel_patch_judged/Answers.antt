use Rattle.std.proofs.Common.{◌∙◌, IfOk, refl, sym, subst}
use Rattle.std.specs.Prelude.{MatchResult}
use Rattle.graph_asks.specs.declared.ask.Ask.TheVariants as asks
use Rattle.graph_steps.specs.bodies.Bodies.{FailsBy}
use Rattle.graph_steps.specs.LinkAsks.{with_link}
use Rattle.graph_steps.specs.States.{set_of}
use Rattle.graph_steps.specs.Steps.{Refuses}
use Rattle.graph_steps.specs.Typed.{WellTyped}
use Rattle.model_life.specs.resolution.Resolving.{HoldsRight}
use Rattle.graph_steps.specs.held.Held.{Holding, holding, state_of, link_of}
use Rattle.graph_machine.specs.Machinery.Brought.{BringsLink}
use Rattle.graph_machine.proofs.Brought.{link_brought, only_ok, patch_typed}
use Rattle.graph_machine.proofs.Kept.{same_kept}
use Rattle.graph_machine.proofs.machine.Machine.rel_patch_judged.Goals as goal

pub judged_rel_patch-requires : goal.judged_rel_patch-requires
judged_rel_patch-requires c = record { typed = subst (λ (h : Holding). WellTyped (state_of h)) (sym c.new-lent.ensures) c.self.invariant.typed; right = subst (λ (h : Holding). HoldsRight (set_of (state_of h)) c.self.inside.resolutions) (sym c.new-lent.ensures) c.self.invariant.right; sound = c.requires }

pub invariant_of-self : goal.invariant_of-self
invariant_of-self c =
    same_kept (holding c.self.inside.models c.self.inside.twins c.self.inside.links) c.self.inside.resolutions c.self.inside.link_bytes c.self.invariant c.self.inside.models refl c.judged_rel_patch.new.resolutions
    (subst (λ (h : Holding). HoldsRight (set_of (state_of h)) c.judged_rel_patch.new.resolutions) c.new-lent.ensures c.judged_rel_patch.ensures.right)

pub returns-clause-judged : goal.returns-clause-judged
returns-clause-judged c =
    subst (λ (h : Holding). MatchResult c.judged_rel_patch.result (λ n. BringsLink (state_of h) (asks.PatchRel c.args.source.now c.args.id.now c.args.patch.now) c.args.source.now c.args.id.now n.edge n.tree) (FailsBy (Refuses (state_of h) (asks.PatchRel c.args.source.now c.args.id.now c.args.patch.now)))) (c.new-lent.ensures ∙ c.self.view_is)
    (link_brought (λ n. n.edge) (λ n. n.tree) (state_of c.new-lent.result) (asks.PatchRel c.args.source.now c.args.id.now c.args.patch.now) c.args.source.now c.args.id.now c.judged_rel_patch.result c.judged_rel_patch.ensures.judged c.judged_rel_patch.ensures.key c.judged_rel_patch.ensures.held c.judged_rel_patch.ensures.tree)

pub returns-clause-typed : goal.returns-clause-typed
returns-clause-typed c =
    subst (λ (h : Holding). IfOk c.judged_rel_patch.result (λ n. WellTyped (with_link (link_of n.edge) (state_of h)))) (c.new-lent.ensures ∙ c.self.view_is)
    (only_ok c.judged_rel_patch.result _ _ _ (λ n b. patch_typed (state_of c.new-lent.result) c.args.source.now c.args.id.now n.edge n.tree c.args.patch.now (subst (λ (h : Holding). WellTyped (state_of h)) (sym c.new-lent.ensures) c.self.invariant.typed) c.requires b)
    (link_brought (λ n. n.edge) (λ n. n.tree) (state_of c.new-lent.result) (asks.PatchRel c.args.source.now c.args.id.now c.args.patch.now) c.args.source.now c.args.id.now c.judged_rel_patch.result c.judged_rel_patch.ensures.judged c.judged_rel_patch.ensures.key c.judged_rel_patch.ensures.held c.judged_rel_patch.ensures.tree))

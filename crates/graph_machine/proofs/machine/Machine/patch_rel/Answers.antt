use Rattle.std.proofs.Common.{◌∙◌, sym, ap, subst}
use Rattle.graph_asks.specs.declared.ask.Ask.TheVariants as asks
use Rattle.graph_steps.specs.LinkAsks.{with_link}
use Rattle.graph_steps.specs.Typed.{WellTyped}
use Rattle.graph_steps.specs.held.Held.{Holding, state_of, link_of}
use Rattle.graph_machine.proofs.Brought.{link_patched, failed_allows, failed_follows}
use Rattle.graph_machine.proofs.machine.Machine.patch_rel.Goals as goal

pub enter_link-requires-clause-typed : goal.enter_link-requires-clause-typed
enter_link-requires-clause-typed c = subst (λ (h : Holding). WellTyped (with_link (link_of c.in-Ok.new.edge) (state_of h))) (sym c.rel_patch_judged.ensures.same) c.in-Ok.ensures.typed

pub enter_link-requires-clause-held : goal.enter_link-requires-clause-held
enter_link-requires-clause-held c = c.in-Ok.ensures.judged.held

pub returns-in_ok-enter_link-in-Ok-clause-allowed : goal.returns-in_ok-enter_link-in-Ok-clause-allowed
returns-in_ok-enter_link-in-Ok-clause-allowed c = link_patched (state_of c.args.self.now) c.args.source.now c.args.id.now c.in-Ok.new.edge c.in-Ok.new.tree c.args.patch.now c.in-Ok.ensures.judged

pub returns-in_ok-enter_link-in-Ok-clause-follows : goal.returns-in_ok-enter_link-in-Ok-clause-follows
returns-in_ok-enter_link-in-Ok-clause-follows c = c.in_ok-enter_link-in-Ok.ensures.ok ∙ ap (λ (h : Holding). with_link (link_of c.in-Ok.new.edge) (state_of h)) c.rel_patch_judged.ensures.same ∙ c.in-Ok.ensures.judged.put

pub returns-in-Err-clause-allowed : goal.returns-in-Err-clause-allowed
returns-in-Err-clause-allowed c = failed_allows (state_of c.args.self.now) (asks.PatchRel c.args.source.now c.args.id.now c.args.patch.now) c.in-Err.failure c.in-Err.ensures.judged c.failed.result c.failed.ensures

pub returns-in-Err-clause-follows : goal.returns-in-Err-clause-follows
returns-in-Err-clause-follows c = failed_follows (state_of c.args.self.now) (asks.PatchRel c.args.source.now c.args.id.now c.args.patch.now) c.in-Err.failure c.in-Err.ensures.judged _ (ap state_of c.rel_patch_judged.ensures.same) c.failed.result c.failed.ensures

use Rattle.std.proofs.Common.{◌∙◌, IfOk, List, Option, sym, ap, subst}
use Rattle.std.specs.Option.{option_copied}
use Rattle.dtdl_terms.specs.declared.interface.Interface.{Interface}
use Rattle.dtdl_terms.specs.declared.resolved.ResolvedContent.{ResolvedContent}
use Rattle.extend_resolve.specs.Breaches.{BreaksNoRule}
use Rattle.model_life.specs.Models.{Model, interfaces_of}
use Rattle.model_life.specs.resolution.Resolving.{HoldsRight}
use Rattle.twin_value.specs.Breaches.{link_called}
use Rattle.graph_steps.specs.bodies.Kept.{link_view}
use Rattle.graph_steps.specs.held.Held.{state_of}
use Rattle.graph_steps.proofs.held.Viewed.{model_in}
use Rattle.graph_judges.specs.links.Machinery.Refused.{RefusesDeclared, TellsRefusal}
use Rattle.graph_judges.proofs.links.contents.declared_refusal.Goals as goal

pub returns-clause-refusal : goal.returns-clause-refusal
returns-clause-refusal c =
    let s = state_of c.args.lent.now in
    let i = c.args.interface.now in
    let held = c.ready.new.self in
    let in_it =
    model_in s held i c.in-Some.resolved.now (subst (λ (ms : List Model). BreaksNoRule (interfaces_of ms)) c.models-models.ensures c.sound.ensures.rules) c.requires.there
    (subst (λ (set : List Interface). HoldsRight set held) (c.set.ensures ∙ ap interfaces_of c.models-models.ensures) c.ready.ensures.right) (sym c.get.ensures ∙ ap option_copied c.in-Some.is) in
    subst (λ (k : Option ResolvedContent). IfOk c.content_refusal.result (TellsRefusal (RefusesDeclared s k (link_view c.args.link.now))))
    (c.link_called-content.ensures
    ∙ ap (λ (cs : List ResolvedContent). link_called c.args.link.now.name cs) c.as_slice.ensures
    ∙ c.judged_alike.ensures.called s i c.in-Some.resolved.now in_it c.args.link.now.name) c.content_refusal.ensures

use Rattle.std.proofs.Common.{◌∙◌, ℕ, List, bytes_eq, not, sym, ap, subst}
use Rattle.std.specs.Option.{option_copied}
use Rattle.dt_base.specs.names.Grammar.{dtmi_text}
use Rattle.dtdl_terms.specs.Sets.{interface_at}
use Rattle.extend_resolve.specs.Breaches.{BreaksNoRule}
use Rattle.graph_steps.specs.Inherited.{is_a}
use Rattle.graph_steps.specs.LinkAsks.{misses}
use Rattle.graph_steps.specs.bodies.Kept.{twin_view}
use Rattle.graph_steps.specs.held.Held.{state_of}
use Rattle.model_life.specs.Models.{interfaces_of}
use Rattle.graph_judges.proofs.links.Suited.{own_there}
use Rattle.graph_judges.proofs.links.targets.misses.Goals as goal

pub is_model_a-requires-clause-rules : goal.is_model_a-requires-clause-rules
is_model_a-requires-clause-rules c = subst BreaksNoRule (sym c.set.ensures) c.sound.ensures.rules

pub is_model_a-requires-clause-there : goal.is_model_a-requires-clause-there
is_model_a-requires-clause-there c =
    ap (λ set. interface_at c.in-Some.interface.now.id set) (c.set.ensures ∙ ap interfaces_of c.models-models.ensures)
    ∙ own_there (state_of c.args.lent.now) c.args.twin.now.model c.in-Some.interface.now (sym c.interface.ensures ∙ ap option_copied c.in-Some.is)

pub returns-in-Some : goal.returns-in-Some
returns-in-Some c =
    ap not (c.is_model_a.ensures ∙ ap (λ set. is_a set c.in-Some.interface.now c.args.declared.now) (c.set.ensures ∙ ap interfaces_of c.models-models.ensures))
    ∙ ap (misses (state_of c.args.lent.now) c.args.declared.now (twin_view c.args.twin.now)) (ap option_copied (sym c.in-Some.is) ∙ c.interface.ensures)

pub returns-in-None : goal.returns-in-None
returns-in-None c =
    c.ne.ensures
    ∙ ap (λ (b : List ℕ). not (bytes_eq b c.as_str-in-None.result.now)) c.as_str.ensures.same
    ∙ ap (λ (b : List ℕ). not (bytes_eq (dtmi_text c.args.twin.now.model) b)) c.as_str-in-None.ensures.same
    ∙ ap (misses (state_of c.args.lent.now) c.args.declared.now (twin_view c.args.twin.now)) (ap option_copied (sym c.in-None.is) ∙ c.interface.ensures)

use Rattle.std.proofs.Common.{sym, ap, ◌∙◌}
use Rattle.dt_base.specs.names.Grammar.{dtmi_text}
use Rattle.dtdl_terms.specs.Sets.{interface_at}
use Rattle.dtdl_terms.specs.declared.interface.Interface.{Interface}
use Rattle.model_life.specs.Models.{interfaces_of}
use Rattle.model_life.proofs.resolution.ByKey.{in_found}
use Rattle.graph_steps.specs.bodies.Kept.{twin_view}
use Rattle.graph_steps.specs.Inherited.{is_a}
use Rattle.graph_steps.specs.States.{set_of}
use Rattle.graph_steps.specs.held.Held.{state_of}
use Rattle.graph_judges.specs.fits.Machinery.Judged.{with_given}
use Rattle.graph_judges.proofs.fits.OneLink.{suits_live}
use Rattle.graph_judges.proofs.fits.links.suits_model.Goals as goal

pub is_model_a-requires-clause-there : goal.is_model_a-requires-clause-there
is_model_a-requires-clause-there c =
    ap (interface_at c.in-Some-interface.interface.now.id) (c.set.ensures ∙ ap interfaces_of c.models-2.ensures)
    ∙ in_found (λ (i : Interface). i.id) dtmi_text (dtmi_text c.in-Some.there.now.model) (set_of (state_of c.args.lent.now)) c.in-Some-interface.interface.now (sym c.in-Some-interface.ensures)

pub returns : goal.returns
returns c =
    suits_live (with_given c.args.twin.now c.args.lent.now) c.args.target.now c.args.declared.now (twin_view c.in-Some.there.now) c.in-Some-interface.interface.now c.is_model_a.result c.in-Some.ensures c.in-Some-interface.ensures
    (c.is_model_a.ensures ∙ ap (λ set. is_a set c.in-Some-interface.interface.now c.args.declared.now) (c.set.ensures ∙ ap interfaces_of c.models-2.ensures))

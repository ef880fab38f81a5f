use Rattle.std.proofs.Common.{◌↔◌, Bool, sym}
use Rattle.std.specs.Prelude.{IsTrue}
use Rattle.std.proofs.lemmas.Result.{IfOk-weaker}
use Rattle.dt_base.specs.names.Grammar.{dtmi_text}
use Rattle.dtdl_terms.specs.declared.interface.Interface.{Interface}
use Rattle.model_life.proofs.resolution.ByKey.{in_found}
use Rattle.graph_steps.specs.bodies.Kept.{twin_view}
use Rattle.graph_steps.specs.States.{set_of}
use Rattle.graph_steps.specs.Typed.{FitsSource, LinkIsTyped}
use Rattle.graph_steps.specs.held.Held.{link_of, state_of}
use Rattle.graph_judges.specs.fits.Machinery.Judged.{with_given}
use Rattle.graph_judges.proofs.fits.OneLink.{typed_live}
use Rattle.graph_judges.proofs.fits.links.link_fits.Goals as goal

pub fits_source-requires-clause-there : goal.fits_source-requires-clause-there
fits_source-requires-clause-there c = in_found (λ (i : Interface). i.id) dtmi_text (dtmi_text c.in-Some.source.now.model) (set_of (state_of c.args.lent.now)) c.in-Some-interface.interface.now (sym c.in-Some-interface.ensures)

pub returns-clause-fits : goal.returns-clause-fits
returns-clause-fits c =
    IfOk-weaker c.fits_source.result
    (λ (b : Bool). IsTrue b ↔ FitsSource (with_given c.args.twin.now c.args.lent.now) c.in-Some-interface.interface.now (link_of c.args.edge.now))
    (λ (b : Bool). IsTrue b ↔ LinkIsTyped (with_given c.args.twin.now c.args.lent.now) (link_of c.args.edge.now))
    (λ b iff. typed_live (with_given c.args.twin.now c.args.lent.now) (link_of c.args.edge.now) (twin_view c.in-Some.source.now) c.in-Some-interface.interface.now b c.in-Some.ensures c.in-Some-interface.ensures iff)
    c.fits_source.ensures.fits

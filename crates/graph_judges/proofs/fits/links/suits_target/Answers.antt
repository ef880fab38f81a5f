use Rattle.std.proofs.Common.{◌↔◌, Option, subst}
use Rattle.std.specs.Prelude.{IsTrue}
use Rattle.dt_base.specs.names.Grammar.{Identifier}
use Rattle.graph_judges.specs.fits.Machinery.Judged.{with_given, SuitsDeclared}
use Rattle.graph_judges.proofs.fits.links.suits_target.Goals as goal

pub returns-in-Some : goal.returns-in-Some
returns-in-Some c =
    subst (λ (o : Option Identifier). IsTrue c.suits_model.result ↔ SuitsDeclared (with_given c.args.twin.now c.args.lent.now) c.args.target.now o) c.in-Some.ensures c.suits_model.ensures

use Rattle.std.proofs.Common.{ℕ, List, Some, None, sym, subst}
use Rattle.std.specs.Cmp.Lexicographic.{slice_cmp}
use Rattle.std.specs.Option.{option_copied}
use Rattle.std.specs.Ordering.{nat_cmp}
use Rattle.std.proofs.Common.{Option, Bor}
use Rattle.twin_value.specs.declared.twin.Twin.{Twin}
use Rattle.graph_judges.specs.fits.Ill.{IsLeastMisfit}
use Rattle.graph_judges.specs.fits.Machinery.Firsts.{IsLeastOf}
use Rattle.graph_judges.specs.fits.Machinery.Judged.{MisfitsAmong}
use Rattle.graph_judges.proofs.fits.Unfit.{misfit_told}
use Rattle.graph_judges.proofs.fits.misfits.least_misfit.Goals as goal

pub returns-in_ok-copy-in-Some-clause-least : goal.returns-in_ok-copy-in-Some-clause-least
returns-in_ok-copy-in-Some-clause-least c = λ old lent new.
    subst (λ (id : List ℕ). IsLeastMisfit old c.args.new.now (Some id)) (sym c.in_ok-copy-in-Some.ensures)
    (misfit_told c.args.lent.now old c.args.new.now lent new (Some c.in-Some.twin.now)
    (subst (λ (o : Option (Bor Twin)). IsLeastOf (λ (a b : Twin). slice_cmp nat_cmp a.id b.id) (MisfitsAmong c.args.lent.now c.args.new.now) (option_copied o)) c.in-Some.is c.in_ok-twin.ensures.least))

pub returns-in-None-clause-least : goal.returns-in-None-clause-least
returns-in-None-clause-least c = λ old lent new.
    misfit_told c.args.lent.now old c.args.new.now lent new None
    (subst (λ (o : Option (Bor Twin)). IsLeastOf (λ (a b : Twin). slice_cmp nat_cmp a.id b.id) (MisfitsAmong c.args.lent.now c.args.new.now) (option_copied o)) c.in-None.is c.in_ok-twin.ensures.least)

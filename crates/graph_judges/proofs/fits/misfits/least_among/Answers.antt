use Rattle.std.proofs.Common.{◌+◌, List, take, sym, subst}
use Rattle.std.specs.Cmp.Lexicographic.{slice_cmp}
use Rattle.std.specs.Option.{option_copied}
use Rattle.std.specs.Ordering.{nat_cmp}
use Rattle.dtdl_terms.specs.declared.uploaded.Uploaded.{Uploaded}
use Rattle.std.proofs.lemmas.List.{take_all}
use Rattle.twin_value.specs.declared.twin.Twin.{Twin}
use Rattle.graph_judges.specs.fits.Machinery.Firsts.{IsLeastOf}
use Rattle.graph_judges.specs.fits.Machinery.Judged.{MisfitsAmong}
use Rattle.graph_judges.proofs.fits.Unfit.{next_least}
use Rattle.graph_judges.proofs.fits.misfits.least_among.Goals as goal

pub uploads-preserved : goal.uploads-preserved
uploads-preserved c = (
  subst (IsLeastOf (λ (a b : Twin). slice_cmp nat_cmp a.id b.id) (MisfitsAmong c.args.lent.now (take (c.uploads.upload-index + 1) c.args.new.now))) (sym c.lesser_twin-least.ensures)
      (next_least c.args.lent.now c.args.new.now c.uploads.upload-index c.upload-item.result c.uploads-test.true c.upload-item.is (option_copied c.uploads.least) (option_copied c.in_ok-found.found) c.uploads.invariant.0 c.in_ok-found.ensures.least),
  c.model_misfit.ensures.right,
)

pub returns-clause-least : goal.returns-clause-least
returns-clause-least c =
    subst (λ (us : List Uploaded). IsLeastOf (λ (a b : Twin). slice_cmp nat_cmp a.id b.id) (MisfitsAmong c.args.lent.now us) (option_copied c.uploads.least)) (take_all c.uploads.upload-index c.args.new.now c.uploads-test.false) c.uploads.invariant.0

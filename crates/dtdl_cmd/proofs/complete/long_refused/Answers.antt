use Rattle.std.proofs.Common.{refl, inl, inr}
use Rattle.dtdl_cmd.specs.Lines.{too_long_line}
use Rattle.dtdl_cmd.specs.declared.status.Status.TheVariants as status
use Rattle.dtdl_cmd.proofs.complete.long_refused.Goals as goal

pub returns : goal.returns
returns c = λ words command input shelf output found run number longer s ran.
    c.documents_answered.ensures words command input shelf output found run status.TooLong s (too_long_line number)
    (inr (inl (refl, (number, longer, refl)))) ran

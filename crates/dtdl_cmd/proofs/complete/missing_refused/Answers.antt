use Rattle.std.proofs.Common.{refl, inl}
use Rattle.dtdl_cmd.specs.Lines.{missing_line}
use Rattle.dtdl_cmd.specs.declared.status.Status.TheVariants as status
use Rattle.dtdl_cmd.proofs.complete.missing_refused.Goals as goal

pub returns : goal.returns
returns c = λ words command input shelf output found run number missing s ran.
    c.documents_answered.ensures words command input shelf output found run status.Missing s (missing_line number)
    (inl (refl, (number, missing, refl))) ran

use Rattle.std.proofs.Common.{refl, inl, inr}
use Rattle.dtdl_cmd.specs.declared.status.Status.TheVariants as status
use Rattle.dtdl_cmd.proofs.complete.faults_refused.Goals as goal

pub returns : goal.returns
returns c = λ words command input shelf output found run documents line there first s ran.
    c.documents_answered.ensures words command input shelf output found run status.Refused s line
    (inr (inr (documents, there, inl (refl, first)))) ran

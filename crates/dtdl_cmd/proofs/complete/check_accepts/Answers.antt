use Rattle.std.proofs.Common.{refl, inr, length}
use Rattle.dtdl_cmd.specs.Lines.{accepted_line}
use Rattle.dtdl_cmd.specs.Answers.{uploaded_interfaces}
use Rattle.dtdl_cmd.specs.declared.command.Command.TheVariants as commands
use Rattle.dtdl_cmd.specs.declared.status.Status.TheVariants as status
use Rattle.dtdl_cmd.proofs.complete.check_accepts.Goals as goal

pub returns : goal.returns
returns c = λ words input shelf output found run documents uploads there declared s ran.
    c.documents_answered.ensures words commands.Check input shelf output found run status.Ok s (accepted_line (length (uploaded_interfaces uploads)))
    (inr (inr (documents, there, inr (uploads, declared, (refl, refl))))) ran

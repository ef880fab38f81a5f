use Rattle.std.proofs.Common.{refl, inr}
use Rattle.dtdl_cmd.specs.Lines.{too_long_text_line}
use Rattle.dtdl_cmd.specs.declared.command.Command.TheVariants as commands
use Rattle.dtdl_cmd.specs.declared.status.Status.TheVariants as status
use Rattle.dtdl_cmd.proofs.complete.long_text_refused.Goals as goal

pub returns : goal.returns
returns c = λ words input shelf output found run documents uploads there declared longer s ran.
    c.documents_answered.ensures words commands.Canon input shelf output found run status.TooLong s too_long_text_line
    (inr (inr (documents, there, inr (uploads, declared, inr (refl, longer, refl))))) ran

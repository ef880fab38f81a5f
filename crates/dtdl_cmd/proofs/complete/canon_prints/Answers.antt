use Rattle.std.proofs.Common.{refl, inl, inr}
use Rattle.canon_text.specs.Canonical.{set_text}
use Rattle.dtdl_cmd.specs.Answers.{uploaded_interfaces}
use Rattle.dtdl_cmd.specs.declared.command.Command.TheVariants as commands
use Rattle.dtdl_cmd.specs.declared.status.Status.TheVariants as status
use Rattle.dtdl_cmd.proofs.complete.canon_prints.Goals as goal

pub returns : goal.returns
returns c = λ words input shelf output found run documents uploads there declared within s ran.
    c.documents_answered.ensures words commands.Canon input shelf output found run status.Ok s (set_text (uploaded_interfaces uploads))
    (inr (inr (documents, there, inr (uploads, declared, inl (refl, within, refl))))) ran

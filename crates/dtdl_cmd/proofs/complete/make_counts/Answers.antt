use Rattle.dtdl_cmd.proofs.FaultlessRuns.{make_completes}
use Rattle.dtdl_cmd.proofs.complete.make_counts.Goals as goal

pub returns : goal.returns
returns c = λ words input shelf output n text s makes is taken ran.
    make_completes c.one_text.ensures n text is words input shelf output s makes taken ran

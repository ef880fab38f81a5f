use Rattle.std.proofs.Common.{sym}
use Rattle.dt_base.specs.declared.names.walk.State.TheVariants.{WantD}
use Rattle.dt_base.specs.names.Grammar.{IsDtmi}
use Rattle.dt_base.proofs.names.Reading.{reads_dtmis, cut_short, no_version}
use Rattle.dt_base.proofs.names.dtmi.finished.Goals as goal

pub returns-in-None : goal.returns-in-None
returns-in-None c = (
  c.requires.some,
  cut_short IsDtmi WantD 2048 reads_dtmis c.args.bytes.now c.args.state c.requires.walked
      (no_version c.args.bytes.now c.args.state c.requires.walked.0 (sym c.in-None.ensures)),
)

use Rattle.std.proofs.Common.{refl}
use Rattle.dtdl_cmd.proofs.Gathered.{source_too_long}
use Rattle.dtdl_cmd.proofs.inputs.document_read.Goals as goal

pub returns-in-Err-TooLong-clause-gathered : goal.returns-in-Err-TooLong-clause-gathered
returns-in-Err-TooLong-clause-gathered g c =
    let faults = g.S.Source.faults in
    source_too_long (record { before = g.S.Source.left c.args.input.now; after = g.S.Source.left c.read_all.new.source; faults_before = faults c.args.input.now; faults_after = faults c.read_all.new.source })
    ((rw c.in-Err-TooLong.field-0-is at c.in-Err-TooLong.ensures.long) refl)

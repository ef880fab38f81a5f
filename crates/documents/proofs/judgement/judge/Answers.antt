use Rattle.std.proofs.lemmas.Option.{slice_get_within}
use Rattle.documents.proofs.Judged.{first_set_breach, still_sound}
use Rattle.documents.proofs.judgement.judge.Goals as goal

pub returns-in-Ok : goal.returns-in-Ok
returns-in-Ok c = still_sound c.new-none.result c.args.uploads.now c.new-none.ensures c.in-Ok.ensures

pub line_of-requires : goal.line_of-requires
line_of-requires c =
    let first = first_set_breach c.new-none.result c.args.uploads.now c.in-Err-Fault.field-0 c.in-Err-Fault.index c.in-Err-Fault.spot c.in-Err-Fault.rule c.new-none.ensures c.in-Err-Fault.field-0-is c.in-Err-Fault.ensures in
    record { within = slice_get_within c.args.uploads.now c.in-Err-Fault.index first.breach.0 first.breach.1 }

pub returns-in-Err-Fault : goal.returns-in-Err-Fault
returns-in-Err-Fault c =
    let first = first_set_breach c.new-none.result c.args.uploads.now c.in-Err-Fault.field-0 c.in-Err-Fault.index c.in-Err-Fault.spot c.in-Err-Fault.rule c.new-none.ensures c.in-Err-Fault.field-0-is c.in-Err-Fault.ensures in
    let named = c.in_ok-line-in-Err-Fault.ensures in
    (record { index = c.in-Err-Fault.index; rule = c.in-Err-Fault.rule; spot = c.in-Err-Fault.spot }, named.0, first, named.1, named.2)

use Rattle.std.proofs.Common.{◌<◌, length, arith}
use Rattle.json_read.proofs.Slices.{told}
use Rattle.json_read.proofs.TextSpans.{plain_more, plain_some}
use Rattle.json_read.proofs.strings.last_plain_end.Goals as goal

pub plain-preserved : goal.plain-preserved
plain-preserved c =
    let plain = told c.is_plain.result _ c.is_plain.ensures c.plain-test.true in
    let within : c.plain.at < length c.args.bytes.now = c.byte_at.ensures.within (plain_some _ plain) in
    let forward = c.plain.invariant.forward in
    record {
      forward = omega arith;
      within = omega arith;
      plain = plain_more c.args.bytes.now c.args.at c.plain.at forward within (rw (← c.byte_at.ensures.value) plain) c.plain.invariant.plain;
    }

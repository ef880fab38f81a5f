use Rattle.std.proofs.Common.{◌≡◌, true, false, bytes_eq}
use Rattle.model_read.proofs.Placed.{skip_member, new_more, ordinal_found}
use Rattle.model_read.proofs.places.ordinal_at.Goals as goal

pub returns-then-eq : goal.returns-then-eq
returns-then-eq c =
    let tested : bytes_eq c.index-members-at.result.key c.args.key.now ≡ true = cc in
    ordinal_found c.args.members.now c.loop-at.at c.index-members-at.result c.args.key.now c.loop-at-test.true c.index-members-at.is tested c.loop-at.invariant.skipped c.loop-at.invariant.new

pub loop-at-preserved : goal.loop-at-preserved
loop-at-preserved c =
    let tested : bytes_eq c.index-members-at.result.key c.args.key.now ≡ false = cc in
    let m = c.index-members-at.result in
    let here = c.index-members-at.is in
    let within = c.loop-at-test.true in record {
      skipped = skip_member c.args.members.now c.loop-at.at m c.args.key.now within here tested c.loop-at.invariant.skipped;
      new = new_more c.args.members.now c.loop-at.at m c.args.key.now within here tested c.loop-at.invariant.new;
    }

use Rattle.std.proofs.Common.{◌<◌, length, ◌∙◌, arith}
use Rattle.json_read.proofs.Slices.{told}
use Rattle.json_read.proofs.Readings.{space_some, space_read}
use Rattle.json_read.proofs.scan.spaces_end.Goals as goal

pub spaces-preserved : goal.spaces-preserved
spaces-preserved c =
    let space = told c.is_space.result _ c.is_space.ensures c.spaces-test.true in
    let within : c.spaces.at < length c.args.bytes.now = c.byte_at.ensures.within (space_some _ space) in
    let forward = c.spaces.invariant.forward in
    record {
      forward = omega arith;
      within = omega arith;
      same = λ s p q r t. c.spaces.invariant.same s p q r t ∙ space_read c.args.bytes.now s c.spaces.at within (rw (← c.byte_at.ensures.value) space) p q r t;
    }

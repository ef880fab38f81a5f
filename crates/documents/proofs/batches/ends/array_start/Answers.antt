use Rattle.std.proofs.Common.{refl, arith}
use Rattle.documents.proofs.batches.Starts.{spells_from_space}
use Rattle.documents.proofs.batches.ends.array_start.Goals as goal

pub spaces-preserved : goal.spaces-preserved
spaces-preserved c =
    let lt = c.spaces-test.true in record {
      within = omega (arith, lt);
      spells = λ v spelled. c.spaces.invariant.spells v (spells_from_space c.args.bytes.now c.spaces.at v lt (c.if-is_space.ensures refl) spelled);
    }

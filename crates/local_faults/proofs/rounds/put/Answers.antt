use Rattle.std.proofs.Common.{false, refl}
use Rattle.local_faults.specs.declared.measures.Measure.{Measure}
use Rattle.local_faults.proofs.Tabled.{put_same}
use Rattle.local_faults.proofs.rounds.put.Goals as goal

pub returns-then-is_same-clause-after : goal.returns-then-is_same-clause-after
returns-then-is_same-clause-after c =
    let least : Measure = record { level = 0; reaches = false } in
    put_same c.args.table.now c.args.at least c.args.measure (c.if-is_same.ensures.0 refl)

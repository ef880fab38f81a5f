use Rattle.std.proofs.Common.{◌≡◌, take}
use Rattle.std.specs.List.{sum_by}
use Rattle.model_life.specs.Machinery.Keeping.{record_at, bytes_at, capped}
use Rattle.model_life.proofs.sums.bytes_of.Given as goal

abbrev pub invariant-ids : goal.invariant-ids
invariant-ids l = l.sum ≡ capped (sum_by (λ id. bytes_at (record_at id l.records)) (take l.id-index l.ids))

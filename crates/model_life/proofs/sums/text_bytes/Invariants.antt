use Rattle.std.proofs.Common.{◌≡◌, take}
use Rattle.std.specs.List.{sum_by}
use Rattle.model_life.specs.Machinery.Keeping.{record_at, bytes_at, capped}
use Rattle.model_life.proofs.sums.text_bytes.Given as goal

abbrev pub invariant-interfaces : goal.invariant-interfaces
invariant-interfaces l = l.sum ≡ capped (sum_by (λ i. bytes_at (record_at i.now.id l.records)) (take l.interface-index l.interfaces))

use Rattle.std.proofs.Common.{◌≡◌, take}
use Rattle.std.specs.List.{sum_by}
use Rattle.model_life.specs.Machinery.Keeping.{written_at, capped}
use Rattle.model_life.proofs.shares.Shares.sum.Given as goal

abbrev pub invariant-ids : goal.invariant-ids
invariant-ids l = l.sum ≡ capped (sum_by (λ id. written_at id l.self) (take l.id-index l.ids))

use Rattle.std.proofs.Common.{◌≡◌, [], take}
use Rattle.std.specs.List.{AllByRecursion}
use Rattle.twin_value.proofs.library.has_schemas.Given as goal

-- no interface so far declares schemas
abbrev pub invariant-loop-one : goal.invariant-loop-one
invariant-loop-one l = AllByRecursion (λ n. n.schemas ≡ []) (take l.one-index l.named)

use Rattle.std.proofs.Common.{take}
use Rattle.twin_value.specs.Machinery.Indexes.{AreSchemas}
use Rattle.twin_value.proofs.library.schemas_of.Given as goal

-- each identifier so far leads to the schemas of the first interface that has it
abbrev pub invariant-loop-one : goal.invariant-loop-one
invariant-loop-one l = AreSchemas (take l.one-index l.named) l.schemas

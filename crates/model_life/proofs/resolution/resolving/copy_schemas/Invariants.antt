use Rattle.std.proofs.Common.{◌≡◌, take}
use Rattle.model_life.proofs.resolution.resolving.copy_schemas.Given as goal

abbrev pub invariant-schemas : goal.invariant-schemas
invariant-schemas l = l.copies.items ≡ take l.schema-index l.schemas

use Rattle.std.proofs.Common.{◌≡◌, take}
use Rattle.dtdl_terms.proofs.schema.+schema_copies.Given as goal

abbrev pub invariant-copy_payloads-loop-payload : goal.invariant-copy_payloads-loop-payload
invariant-copy_payloads-loop-payload l = l.copies.items ≡ take l.payload-index l.payloads

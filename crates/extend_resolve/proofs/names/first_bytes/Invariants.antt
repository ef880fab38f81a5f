use Rattle.std.proofs.Common.{◌≡◌, take}
use Rattle.std.specs.List.{fold}
use Rattle.extend_resolve.specs.Machinery.Names.{then_byte}
use Rattle.extend_resolve.proofs.names.first_bytes.Given as goal

abbrev pub invariant-bytes : goal.invariant-bytes
invariant-bytes l = l.number ≡ fold then_byte 0 (take l.byte-index l.byte-items)

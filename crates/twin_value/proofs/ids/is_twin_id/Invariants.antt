use Rattle.std.proofs.Common.{take}
use Rattle.std.specs.List.{AllPass}
use Rattle.twin_value.specs.Breaches.{is_id_byte}
use Rattle.twin_value.proofs.ids.is_twin_id.Given as goal

-- each byte so far may stand there
abbrev pub invariant-loop-byte : goal.invariant-loop-byte
invariant-loop-byte l = AllPass is_id_byte (take l.byte-index l.bytes)

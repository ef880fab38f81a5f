use Rattle.std.proofs.Common.{take}
use Rattle.std.specs.List.{AllPass}
use Rattle.dt_base.specs.names.Grammar.{is_name_byte}
use Rattle.dt_base.proofs.names.name.are_name_bytes.Given as goal

-- each byte so far may stand in a name
abbrev pub invariant-loop-byte : goal.invariant-loop-byte
invariant-loop-byte l = AllPass is_name_byte (take l.byte-index l.bytes)

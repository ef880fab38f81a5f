-- What a link in memory tells.
use Rattle.std.specs.Prelude.{ℕ, List, Option, Some, drop}
use Rattle.dt_base.specs.declared.mem_link.MemLink.{MemLink}
use Rattle.connections.specs.Records.{LinkRecord}

-- The bytes that are left to read from it.
abbrev pub left_in : MemLink → Option (List ℕ)
left_in link = Some (drop link.source.taken link.source.bytes)

-- The bytes that it has taken.
abbrev pub taken_in : MemLink → Option (List ℕ)
taken_in link = Some link.sink.taken

-- Its record, with this count of faults.
abbrev pub record_of : MemLink → ℕ → LinkRecord
record_of link count = record { left = left_in link; taken = taken_in link; faults = count }

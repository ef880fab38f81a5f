use Rattle.std.proofs.Common.{◌+◌, ◌-◌, ◌≡◌, ◌≤◌, take, vec_len}
use Rattle.std.specs.Io.KnownBytes.{Consumes}
use Rattle.dt_base.proofs.reads.read_all.Given as goal

-- what the source gave so far is the front of the buffer
abbrev pub invariant-reading : goal.invariant-reading
invariant-reading g l = record {
  filled : l.filled ≤ vec_len l.buffer;
  within : vec_len l.buffer ≤ l.limit + 1;
  front : Consumes (g.S.Source.left l.fn.source) (g.S.Source.left l.source) (take l.filled l.buffer.items);
  count : g.S.Source.faults l.fn.source ≤ g.S.Source.faults l.source;
  beside : g.S.Source.aside l.source ≡ g.S.Source.aside l.fn.source;
}

abbrev pub decreases-reading : goal.decreases-reading
decreases-reading g l = l.limit + 1 - l.filled

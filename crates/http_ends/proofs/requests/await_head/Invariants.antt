use Rattle.std.proofs.Common.{◌-◌, ◌≡◌, ◌<◌, length}
use Rattle.std.specs.Prelude.{◌⊎◌}
use Rattle.http_ends.specs.reading.Reads.{ReadsMore}
use Rattle.http_ends.proofs.requests.await_head.Given as goal

-- nothing but reads happened, the first of which is still to come or gave a byte
abbrev pub invariant-awaiting : goal.invariant-awaiting
invariant-awaiting g l = record {
  read : ReadsMore g.S.Source.left g.S.Source.aside g.S.Source.faults l.fn.link l.link l.fn.buffer l.buffer;
  grew : (length l.buffer ≡ length l.fn.buffer) ⊎ (length l.fn.buffer < length l.buffer);
}

abbrev pub decreases-awaiting : goal.decreases-awaiting
decreases-awaiting g l = 16384 - length l.buffer

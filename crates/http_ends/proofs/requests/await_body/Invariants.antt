use Rattle.std.proofs.Common.{◌-◌, length}
use Rattle.http_ends.specs.reading.Reads.{ReadsMore, IsUnread}
use Rattle.std.proofs.Common.{◌<◌}
use Rattle.std.specs.Prelude.{◌⊎◌}
use Rattle.http_ends.proofs.requests.await_body.Given as goal

-- nothing but reads happened, and none where the bytes were there at first
abbrev pub invariant-awaiting : goal.invariant-awaiting
invariant-awaiting g l = record {
  read : ReadsMore g.S.Source.left g.S.Source.aside g.S.Source.faults l.fn.link l.link l.fn.buffer l.buffer;
  unread : IsUnread l.fn.link l.link l.fn.buffer l.buffer ⊎ (length l.fn.buffer < l.size);
}

abbrev pub decreases-awaiting : goal.decreases-awaiting
decreases-awaiting g l = l.size - length l.buffer

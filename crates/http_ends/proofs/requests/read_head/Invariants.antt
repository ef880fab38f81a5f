use Rattle.std.proofs.Common.{◌≡◌, length}
use Rattle.std.specs.Prelude.{◌⊎◌}
use Rattle.std.specs.Io.KnownBytes.{IsAtEnd}
use Rattle.dt_base.specs.Faults.{Rose}
use Rattle.httparse.specs.Grammar.{HasNoRequest}
use Rattle.http_ends.specs.declared.buffer.Filled.TheVariants.{Ended, Failed}
use Rattle.http_ends.specs.reading.Reads.{ReadsMore, IsUnread}
use Rattle.http_ends.specs.reading.Judging.{turns_left}
use Rattle.http_ends.proofs.requests.read_head.Given as goal

-- nothing but reads happened, and none where a head was there at first
abbrev pub invariant-judging : goal.invariant-judging
invariant-judging g l = record {
  read : ReadsMore g.S.Source.left g.S.Source.aside g.S.Source.faults l.fn.link l.link l.fn.buffer l.buffer;
  ended : l.filled ≡ Ended → IsAtEnd (g.S.Source.left l.link);
  failed : l.filled ≡ Failed → Rose (g.S.Source.faults l.fn.link) (g.S.Source.faults l.link);
  unread : IsUnread l.fn.link l.link l.fn.buffer l.buffer ⊎ HasNoRequest l.fn.buffer;
}

abbrev pub decreases-judging : goal.decreases-judging
decreases-judging g l = turns_left l.filled (length l.buffer)

use Rattle.canon_text.specs.Canonical.{entry_pair}
use Rattle.canon_print.proofs.Lists.{entry_printed}
use Rattle.canon_print.proofs.localized.push_lent_entries.Goals as goal

pub loop-position-preserved : goal.loop-position-preserved
loop-position-preserved c = rw (c.in_ok-push_entry.ensures, c.in_ok-push_separator.ensures)
    (entry_printed entry_pair _ _ c.args.entries.now c.loop-position.position c.index-entries-position.result c.loop-position-test.true c.index-entries-position.is c.loop-position.invariant)

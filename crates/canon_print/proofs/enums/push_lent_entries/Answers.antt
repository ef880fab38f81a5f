use Rattle.canon_text.specs.Canonical.{enum_entry_value}
use Rattle.canon_print.proofs.Lists.{element_printed}
use Rattle.canon_print.proofs.enums.push_lent_entries.Goals as goal

pub loop-position-preserved : goal.loop-position-preserved
loop-position-preserved c = rw (c.in_ok-push_enum_entry.ensures, c.in_ok-push_separator.ensures)
    (element_printed enum_entry_value _ _ c.args.entries.now c.loop-position.position c.index-entries-position.result c.loop-position-test.true c.index-entries-position.is c.loop-position.invariant)

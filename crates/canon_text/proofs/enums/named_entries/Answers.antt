use Rattle.canon_text.specs.Canonical.{enum_entry_pair}
use Rattle.canon_text.proofs.Steps.{named_more}
use Rattle.canon_text.proofs.enums.named_entries.Goals as goal

pub loop-entry-preserved : goal.loop-entry-preserved
loop-entry-preserved c =
    named_more enum_entry_pair c.args.entries.now c.loop-entry.entry-index c.entry-item.result _ _ _ _ c.loop-entry-test.true c.entry-item.is c.loop-entry.invariant c.in_ok-push_named.ensures c.as_str.ensures.same c.in_ok-value.ensures

use Rattle.std.proofs.Common.{ap, ◌∙◌}
use Rattle.canon_text.specs.Canonical.{entry_pair}
use Rattle.canon_print.specs.Machinery.Lent.{values_now}
use Rattle.canon_print.proofs.Lists.{members_printed}
use Rattle.canon_print.proofs.localized.push_many_entries.Goals as goal

pub returns : goal.returns
returns c = members_printed entry_pair _ _ _ c.as_slice.result.now c.args.entries.now c.in_ok-push_str.ensures.bytes (ap values_now c.as_slice.ensures.value ∙ c.in_ok-list.ensures) c.in_ok-push_lent_entries.ensures

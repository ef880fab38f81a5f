use Rattle.std.proofs.Common.{◌≡◌, map, take}
use Rattle.json_tree.specs.View.{member_view}
use Rattle.canon_text.specs.Canonical.{entry_pair}
use Rattle.canon_text.proofs.common.entries.Given as goal

abbrev pub invariant-loop-entry : goal.invariant-loop-entry
invariant-loop-entry l = map member_view l.members.items ≡ map entry_pair (take l.entry-index l.entries)

use Rattle.std.proofs.Common.{take}
use Rattle.std.specs.List.{AllZip}
use Rattle.json_tree.specs.View.{members_view}
use Rattle.json_tree.specs.Members.{pairs_of}
use Rattle.local_rules.specs.Declarations.{IsTextOfLanguage}
use Rattle.model_read.proofs.localized.entries_of.Given as goal

-- what was read so far is that of the parts so far
abbrev pub invariant-loop-member : goal.invariant-loop-member
invariant-loop-member l = AllZip IsTextOfLanguage (pairs_of (members_view (take l.member-index l.members))) l.entries.items

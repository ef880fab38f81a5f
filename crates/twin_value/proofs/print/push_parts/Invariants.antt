use Rattle.std.proofs.Common.{take}
use Rattle.json_tree.specs.View.{members_view}
use Rattle.twin_value.specs.Twins.{picked, any_key, with_metadata}
use Rattle.twin_value.specs.Machinery.Gathering.{PutsBehind}
use Rattle.twin_value.proofs.print.push_parts.Given as goal

abbrev pub invariant-loop-member : goal.invariant-loop-member
invariant-loop-member l = PutsBehind l.fn.members.items l.members.items (picked any_key with_metadata (members_view (take l.member-index l.from)))

use Rattle.std.proofs.Common.{take}
use Rattle.json_tree.specs.View.{members_view}
use Rattle.twin_value.specs.Machinery.Gathering.{PutsBehind}
use Rattle.twin_value.proofs.gather.push_all.Given as goal

abbrev pub invariant-loop-member : goal.invariant-loop-member
invariant-loop-member l = PutsBehind l.fn.members.items l.members.items (members_view (take l.member-index l.from))

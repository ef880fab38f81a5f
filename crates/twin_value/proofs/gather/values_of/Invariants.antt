use Rattle.std.proofs.Common.{take, []}
use Rattle.json_tree.specs.View.{members_view}
use Rattle.twin_value.specs.Twins.{picked, same_value, is_value_role}
use Rattle.twin_value.specs.Machinery.Gathering.{PutsBehind}
use Rattle.twin_value.specs.Machinery.Views.{keys_role}
use Rattle.twin_value.proofs.gather.values_of.Given as goal

abbrev pub invariant-loop-member : goal.invariant-loop-member
invariant-loop-member l = PutsBehind [] l.members.items (picked (λ key. is_value_role (keys_role l.keys key)) same_value (members_view (take l.member-index l.from)))

use Rattle.std.proofs.Common.{[]}
use Rattle.json_tree.specs.View.{members_view}
use Rattle.twin_value.specs.Twins.{picked, same_value, is_value_role}
use Rattle.twin_value.specs.Machinery.Views.{keys_role}
use Rattle.twin_value.proofs.Gathered.{adds_none, picked_either, picked_done, added}
use Rattle.twin_value.proofs.gather.values_of.Goals as goal

pub loop-member-init : goal.loop-member-init
loop-member-init c = rw c.in_ok-members.ensures.items (adds_none [])

pub loop-member-preserved : goal.loop-member-preserved
loop-member-preserved c =
    picked_either (λ key. is_value_role (keys_role c.args.keys.now key)) same_value [] _ _ c.args.from.now c.loop-member.member-index c.member-item.result c.loop-member-test.true c.member-item.is c.loop-member.invariant
    (rw (c.is_value-passes.ensures, c.role.ensures, c.as_str.ensures) at c.in-Ok.ensures)

pub returns : goal.returns
returns c =
    c.ordered.ensures (picked (λ key. is_value_role (keys_role c.args.keys.now key)) same_value (members_view c.args.from.now))
    (added _ _ (picked_done (λ key. is_value_role (keys_role c.args.keys.now key)) same_value [] _ c.args.from.now c.loop-member.member-index c.loop-member-test.false c.loop-member.invariant))

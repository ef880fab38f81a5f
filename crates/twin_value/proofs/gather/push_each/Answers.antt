use Rattle.twin_value.specs.Twins.{same_value, without_metadata, is_value_role, is_part_role}
use Rattle.twin_value.specs.Machinery.Views.{keys_role}
use Rattle.twin_value.proofs.Gathered.{adds_none, picked_either, picked_done}
use Rattle.twin_value.proofs.gather.push_each.Goals as goal

pub loop-member-init : goal.loop-member-init
loop-member-init c = (adds_none _, adds_none _)

pub loop-member-preserved : goal.loop-member-preserved
loop-member-preserved c = (
  picked_either (λ key. is_value_role (keys_role c.args.keys.now key)) same_value _ _ _ c.args.from.now c.loop-member.member-index c.member-item.result c.loop-member-test.true c.member-item.is c.loop-member.invariant.0
      (rw (c.is_value.ensures, c.role-role.ensures, c.as_str.ensures) at c.in_ok-push_if.ensures),
  picked_either (λ key. is_part_role (keys_role c.args.keys.now key)) without_metadata _ _ _ c.args.from.now c.loop-member.member-index c.member-item.result c.loop-member-test.true c.member-item.is c.loop-member.invariant.1
      (rw (c.is_part.ensures, c.role-role.ensures, c.as_str.ensures) at c.in_ok-push_part_if.ensures),
)

pub returns-clause-values : goal.returns-clause-values
returns-clause-values c = picked_done (λ key. is_value_role (keys_role c.args.keys.now key)) same_value _ _ c.args.from.now c.loop-member.member-index c.loop-member-test.false c.loop-member.invariant.0

pub returns-clause-parts : goal.returns-clause-parts
returns-clause-parts c = picked_done (λ key. is_part_role (keys_role c.args.keys.now key)) without_metadata _ _ c.args.from.now c.loop-member.member-index c.loop-member-test.false c.loop-member.invariant.1

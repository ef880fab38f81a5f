use Rattle.std.proofs.Common.{ap, subst, ◌∙◌, ◌≡◌}
use Rattle.std.proofs.lemmas.Result.{IfOk-weaker}
use Rattle.json_decimal.specs.Number.{Number}
use Rattle.json_tree.specs.Values.{object, Members}
use Rattle.json_tree.specs.View.{view, members_view}
use Rattle.json_tree.specs.Sorting.{IsSortedOf}
use Rattle.twin_value.specs.Roles.{body_member_role}
use Rattle.twin_value.specs.Twins.{picked, same_value, without_metadata, is_value_role, is_part_role, property_members, component_members}
use Rattle.twin_value.specs.Machinery.Views.{role_view, keys_role}
use Rattle.twin_value.proofs.Gathered.{picked_same}
use Rattle.twin_value.proofs.twin.values_in.Goals as goal

pub returns : goal.returns
returns c =
    let from = members_view c.members_in.result.now in
    let values : picked (λ key. is_value_role (keys_role c.in_ok-keys.keys key)) same_value from ≡ property_members (role_view c.args.role) (view c.args.tree.now) =
    picked_same _ _ same_value (λ key. ap is_value_role (c.in_ok-keys.ensures key)) from
    ∙ ap (picked (λ key. is_value_role (body_member_role (role_view c.args.role) key)) same_value) c.members_in.ensures in
    let parts : picked (λ key. is_part_role (keys_role c.in_ok-keys.keys key)) without_metadata from ≡ component_members (role_view c.args.role) (view c.args.tree.now) =
    picked_same _ _ without_metadata (λ key. ap is_part_role (c.in_ok-keys.ensures key)) from
    ∙ ap (picked (λ key. is_part_role (body_member_role (role_view c.args.role) key)) without_metadata) c.members_in.ensures in
    IfOk-weaker c.values_and_parts-made.result _ _ (λ made h. (
      subst (λ (ms : Members Number). IsSortedOf (object ms) (view made.0)) values h.0,
      subst (λ (ms : Members Number). IsSortedOf (object ms) (view made.1)) parts h.1,
    )) c.values_and_parts-made.ensures

use Rattle.std.proofs.Common.{ap, subst, ◌∙◌}
use Rattle.std.specs.Result.{IfOk}
use Rattle.json_decimal.specs.Number.{Number}
use Rattle.json_tree.specs.Values.{object, Members}
use Rattle.json_tree.specs.View.{view, members_view}
use Rattle.json_tree.specs.Sorting.{IsSortedOf}
use Rattle.twin_value.specs.Roles.{body_member_role}
use Rattle.twin_value.specs.Twins.{picked, same_value, is_value_role}
use Rattle.twin_value.specs.Machinery.Views.{role_view}
use Rattle.twin_value.proofs.Gathered.{picked_same}
use Rattle.twin_value.proofs.link.link_values.Goals as goal

pub returns : goal.returns
returns c = subst (λ (ms : Members Number). IfOk c.values_of-values.result (λ t. IsSortedOf (object ms) (view t)))
    (picked_same _ _ same_value (λ key. ap is_value_role (c.in_ok-keys.ensures key)) (members_view c.members_in.result.now)
    ∙ ap (picked (λ key. is_value_role (body_member_role (role_view c.args.role) key)) same_value) c.members_in.ensures) c.values_of-values.ensures

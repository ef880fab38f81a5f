use Rattle.std.proofs.Common.{List, subst}
use Rattle.json_tree.specs.View.{members_view}
use Rattle.json_tree.specs.declared.tree.Member.{Member}
use Rattle.twin_value.specs.Twins.{picked, same_value, without_metadata, is_value_role, is_part_role}
use Rattle.twin_value.specs.Machinery.Gathering.{PutsBehind}
use Rattle.twin_value.specs.Machinery.Views.{keys_role}
use Rattle.twin_value.proofs.Gathered.{added}
use Rattle.twin_value.proofs.gather.values_and_parts.Goals as goal

pub returns : goal.returns
returns c =
    let values = picked (λ key. is_value_role (keys_role c.args.keys.now key)) same_value (members_view c.args.from.now) in
    let parts = picked (λ key. is_part_role (keys_role c.args.keys.now key)) without_metadata (members_view c.args.from.now) in (
      c.ordered.ensures values (added _ _ (subst (λ (l : List Member). PutsBehind l c.push_each.new.values.items values) c.in_ok-values.ensures.items c.in-Ok.ensures.values)),
      c.ordered-2.ensures parts (added _ _ (subst (λ (l : List Member). PutsBehind l c.push_each.new.parts.items parts) c.new-parts.ensures.items c.in-Ok.ensures.parts)),
    )

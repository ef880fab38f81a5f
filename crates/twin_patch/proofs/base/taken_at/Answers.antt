use Rattle.std.proofs.Common.{refl, ap, ◌∙◌}
use Rattle.json_tree.specs.View.{members_view}
use Rattle.json_tree.proofs.Views.{view-Null}
use Rattle.twin_patch.specs.Machinery.Orders.{put_at}
use Rattle.twin_patch.proofs.Edits.{set_value, value_at}
use Rattle.twin_patch.proofs.base.taken_at.Goals as goal

pub returns-clause-left : goal.returns-clause-left
returns-clause-left c =
    rw c.replace.ensures.after
    (set_value c.args.members.now.items c.args.at c.index_mut.result.now _ c.requires c.index_mut.ensures.value refl
    ∙ ap (λ v. put_at c.args.at v (members_view c.args.members.now.items)) view-Null)

pub returns-clause-value : goal.returns-clause-value
returns-clause-value c = rw c.replace.ensures.value (c.index_mut.result.now.key, value_at c.args.members.now.items c.args.at c.index_mut.result.now c.requires c.index_mut.ensures.value)

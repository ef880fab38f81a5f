use Rattle.std.proofs.Common.{◌∙◌, ap, subst}
use Rattle.std.proofs.lemmas.Result.{on_ok_weaker}
use Rattle.json_tree.specs.View.{view, members_view}
use Rattle.json_tree.specs.Members.{members_in}
use Rattle.local_rules.specs.Roles.{type_of}
use Rattle.local_rules.specs.declared.role.Position.TheVariants as position
use Rattle.model_read.specs.Machinery.Shapes.{IsValidContent}
use Rattle.model_read.proofs.Shaped.{content_object, content_shape}
use Rattle.model_read.proofs.contents.push_content.Goals as goal

pub members_of-members-requires : goal.members_of-members-requires
members_of-members-requires c = content_object (view c.args.tree.now) c.requires

pub name_at-requires : goal.name_at-requires
name_at-requires c = (content_shape (members_view c.members_of-members.result.now) (subst IsValidContent c.members_of-members.ensures c.requires)).name

pub common_of-requires : goal.common_of-requires
common_of-requires c = (content_shape (members_view c.members_of-members.result.now) (subst IsValidContent c.members_of-members.ensures c.requires)).common

pub push_kind-requires : goal.push_kind-requires
push_kind-requires c = (content_shape (members_view c.members_of-members.result.now) (subst IsValidContent c.members_of-members.ensures c.requires)).kind

pub returns : goal.returns
returns c =
    let is = c.members_of-members.ensures in
    on_ok_weaker c.push_kind.result (λ gained. record {
      one = record { name = c.in_ok-name.name; common = c.in-Ok.common; kind = gained.kind };
      items = gained.items;
      is = (
        ap (λ v. type_of position.Content (members_in v)) is ∙ gained.named,
        (members_view c.members_of-members.result.now, is, c.in_ok-name.ensures, c.in-Ok.ensures, gained.are),
      );
    }) c.push_kind.ensures

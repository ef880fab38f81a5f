use Rattle.std.proofs.Common.{sym, ap, subst}
use Rattle.std.proofs.lemmas.Result.{on_ok_weaker}
use Rattle.std.specs.Option.{unwrap_or}
use Rattle.json_tree.specs.View.{view, members_view}
use Rattle.local_rules.specs.declared.role.Element.TheVariants as element
use Rattle.model_read.specs.Machinery.Shapes.{IsValidProperty}
use Rattle.model_read.proofs.Shaped.{property_object, property_shape}
use Rattle.model_read.proofs.contents.push_property_of.Goals as goal

pub members_of-members-requires : goal.members_of-members-requires
members_of-members-requires c = property_object (view c.args.tree.now) c.requires

pub name_at-requires : goal.name_at-requires
name_at-requires c = (property_shape (members_view c.members_of-members.result.now) (subst IsValidProperty c.members_of-members.ensures c.requires)).name

pub common_of-requires : goal.common_of-requires
common_of-requires c = (property_shape (members_view c.members_of-members.result.now) (subst IsValidProperty c.members_of-members.ensures c.requires)).common

pub push_property-requires : goal.push_property-requires
push_property-requires c = (property_shape (members_view c.members_of-members.result.now) (subst IsValidProperty c.members_of-members.ensures c.requires)).kind

pub returns : goal.returns
returns c =
    on_ok_weaker c.push_property.result (λ gained. record {
      one = record { name = c.in_ok-name.name; common = c.in-Ok.common; kind = gained.kind };
      items = gained.items;
      is = (
        (
          (members_view c.members_of-members.result.now, c.members_of-members.ensures, c.in_ok-name.ensures, c.in-Ok.ensures, gained.are),
          ap (λ e. unwrap_or e element.Property) (sym gained.named),
        ),
        tt,
      );
    }) c.push_property.ensures

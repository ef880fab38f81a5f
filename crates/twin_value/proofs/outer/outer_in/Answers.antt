use Rattle.json_tree.specs.View.{view}
use Rattle.twin_value.specs.Machinery.Views.{role_view}
use Rattle.twin_value.proofs.Outermost.{outer_here, outer_parts}
use Rattle.twin_value.proofs.outer.outer_in.Goals as goal

pub returns-in-Some : goal.returns-in-Some
returns-in-Some c =
    outer_here (role_view c.args.role) (view c.args.tree.now) c.new.result.items c.in-Some.code c.broken_by.result c.requires c.broken_by.ensures.first c.in-Some.is c.new.ensures.items

pub returns : goal.returns
returns c =
    outer_parts (role_view c.args.role) (view c.args.tree.now) c.members_in.result.now c.broken_by.result c.outer_in_members.result c.requires c.broken_by.ensures.first c.in_default.is c.members_in.ensures c.outer_in_members.ensures

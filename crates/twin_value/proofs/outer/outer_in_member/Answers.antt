use Rattle.json_tree.specs.View.{view}
use Rattle.std.proofs.Common.{sym, ◌∙◌}
use Rattle.twin_value.specs.Machinery.Views.{role_view}
use Rattle.twin_value.proofs.Outermost.{undeclared_found, mild_found}
use Rattle.twin_value.proofs.outer.outer_in_member.Goals as goal

pub returns-then-is_undeclared : goal.returns-then-is_undeclared
returns-then-is_undeclared c = undeclared_found (role_view c.args.role) (view c.args.tree.now) (sym c.is_undeclared.ensures ∙ c.if-is_undeclared.true)

pub returns : goal.returns
returns c = mild_found (role_view c.args.role) (view c.args.tree.now) c.first_in.result c.requires (sym c.is_undeclared.ensures ∙ c.if-is_undeclared.false) c.first_in.ensures.first

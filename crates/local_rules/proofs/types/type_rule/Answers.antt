use Rattle.std.proofs.Common.{sym}
use Rattle.json_tree.specs.View.{view}
use Rattle.local_rules.proofs.TypeRules.{typed_first, untyped_first}
use Rattle.local_rules.proofs.types.type_rule.Goals as goal

pub returns-in-Some : goal.returns-in-Some
returns-in-Some c =
    let typed = sym c.in-Some.ensures in
    typed_first c.args.position (view c.args.tree.now) c.in-Some.element c.has_bad_beside.result c.then_some.result typed (c.has_bad_beside.ensures typed) c.then_some.ensures

pub returns-in-None : goal.returns-in-None
returns-in-None c =
    let none = sym c.in-None.ensures in
    untyped_first c.args.position (view c.args.tree.now) c.is_bad_untyped.result c.then_some-in-None.result none (c.is_bad_untyped.ensures none) c.then_some-in-None.ensures

use Rattle.std.proofs.Common.{sym, ◌∙◌}
use Rattle.twin_value.proofs.Linked.{property_role_found, property_role_lost}
use Rattle.twin_value.proofs.contents.property_role.Goals as goal

pub returns-in-Some-get : goal.returns-in-Some-get
returns-in-Some-get c =
    c.declared_role.ensures
    ∙ sym (property_role_found c.args.library.now c.args.from c.in-Some.from c.args.key.now c.args.properties.now c.get.result c.in-Some-get.property c.in-Some.is c.get.ensures c.in-Some-get.is)

pub returns-in-None : goal.returns-in-None
returns-in-None c =
    sym (property_role_lost c.args.library.now c.args.from c.in-Some.from c.args.key.now c.args.properties.now c.get.result c.in-Some.is c.get.ensures c.in-None.is)

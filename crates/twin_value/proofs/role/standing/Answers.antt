use Rattle.twin_value.proofs.Schemas.{named_stands}
use Rattle.twin_value.proofs.role.standing.Goals as goal

pub returns-in-Named : goal.returns-in-Named
returns-in-Named c = named_stands c.args.named.now c.args.schema.now c.in-Named.id c.as_str.result.now c.get.result c.in-Named.is c.as_str.ensures.same c.get.ensures

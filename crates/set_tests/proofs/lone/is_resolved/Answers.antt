use Rattle.set_tests.proofs.Soles.{lone_there}
use Rattle.set_tests.proofs.lone.is_resolved.Goals as goal

pub resolve-requires-clause-there : goal.resolve-requires-clause-there
resolve-requires-clause-there c = lone_there c.args.set.now c.args.id.now c.requires

use Rattle.set_tests.proofs.Soles.{lone_there}
use Rattle.set_tests.proofs.lone.is_held.Goals as goal

pub ready-requires-clause-there : goal.ready-requires-clause-there
ready-requires-clause-there c = lone_there c.args.set.now c.args.id.now c.requires

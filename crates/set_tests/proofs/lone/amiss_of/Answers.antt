use Rattle.set_tests.proofs.Soles.{lone_there}
use Rattle.set_tests.proofs.lone.amiss_of.Goals as goal

pub is_a-requires-clause-there : goal.is_a-requires-clause-there
is_a-requires-clause-there c = lone_there c.args.set.now c.args.id.now c.requires

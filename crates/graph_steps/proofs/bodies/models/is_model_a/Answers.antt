use Rattle.graph_steps.proofs.bodies.Reaching.{is_a_answer}
use Rattle.graph_steps.proofs.bodies.models.is_model_a.Goals as goal

pub returns : goal.returns
returns c = is_a_answer c.args.set.now c.args.id.now c.requires.rules c.args.interface.now c.requires.there c.is_a.result c.is_a.ensures

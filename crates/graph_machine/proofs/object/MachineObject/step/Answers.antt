use Rattle.graph_steps.specs.held.Held.{state_of}
use Rattle.graph_machine.proofs.Frost.{frozen_by}
use Rattle.graph_machine.proofs.object.MachineObject.step.Goals as goal

pub returns-clause-frozen : goal.returns-clause-frozen
returns-clause-frozen c = frozen_by c.answered.result (state_of c.args.self.now) (state_of c.answered.new.self) c.args.ask.now c.typed.ensures c.stays_frozen.ensures c.answered.ensures.allowed c.answered.ensures.follows

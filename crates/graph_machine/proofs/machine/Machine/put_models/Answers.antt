use Rattle.graph_steps.specs.held.Held.{state_of}
use Rattle.graph_machine.proofs.Came.{came_allowed, came_follows, came_unchanged, same_state}
use Rattle.graph_machine.proofs.machine.Machine.put_models.Goals as goal

pub returns-clause-allowed : goal.returns-clause-allowed
returns-clause-allowed c =
    came_allowed (state_of c.args.self.now) c.args.new.now c.in_ok-tree.tree c.models_in-end.result c.answered.result c.answered.ensures c.models_in-end.ensures.ordered c.in_ok-tree.ensures c.models_in-end.ensures.new c.models_in-end.ensures.judged

pub returns-clause-follows : goal.returns-clause-follows
returns-clause-follows c =
    came_follows (state_of c.args.self.now) c.args.new.now c.in_ok-tree.tree c.models_in-end.result c.answered.result c.answered.ensures (state_of c.models_in-end.new.self) c.models_in-end.ensures.ok (same_state c.models_in-end.result c.models_in-end.new.self c.args.self.now c.models_in-end.ensures.err) c.models_in-end.ensures.judged

pub returns-clause-unchanged : goal.returns-clause-unchanged
returns-clause-unchanged c =
    came_unchanged (state_of c.args.self.now) c.args.new.now c.in_ok-tree.tree c.models_in-end.result c.answered.result c.answered.ensures c.models_in-end.new.self c.args.self.now c.models_in-end.ensures.err

use Rattle.std.proofs.Common.{subst}
use Rattle.graph_asks.specs.Answers.{done}
use Rattle.graph_steps.specs.Steps.{Answers}
use Rattle.graph_steps.specs.held.Held.{state_of}
use Rattle.graph_machine.proofs.machine.Machine.answered.Goals as goal

pub returns-in-Mark-clause-free : goal.returns-in-Mark-clause-free
returns-in-Mark-clause-free c = λ named told. c.mark.ensures.free (subst (λ ask. Answers (state_of c.args.self.now) ask done) c.in-Mark.is told)

pub returns-in-DropModel-clause-free : goal.returns-in-DropModel-clause-free
returns-in-DropModel-clause-free c = λ named told. c.drop_model.ensures.free (subst (λ ask. Answers (state_of c.args.self.now) ask done) c.in-DropModel.is told)

pub returns-in-DropTwin-clause-free : goal.returns-in-DropTwin-clause-free
returns-in-DropTwin-clause-free c = λ named told. c.drop_twin.ensures.free (subst (λ ask. Answers (state_of c.args.self.now) ask done) c.in-DropTwin.is told)

pub returns-in-DropRel-clause-free : goal.returns-in-DropRel-clause-free
returns-in-DropRel-clause-free c = λ named told. c.drop_rel.ensures.free (subst (λ ask. Answers (state_of c.args.self.now) ask done) c.in-DropRel.is told)

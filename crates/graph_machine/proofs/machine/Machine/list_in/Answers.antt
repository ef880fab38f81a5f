use Rattle.std.proofs.Common.{◌≡◌, ◌∙◌, sym, refl}
use Rattle.graph_asks.specs.Answers.{answer_of}
use Rattle.graph_asks.specs.declared.ask.Ask.TheVariants as asks
use Rattle.graph_steps.specs.Steps.{Allows, follows}
use Rattle.graph_steps.specs.held.Held.{state_of}
use Rattle.graph_machine.proofs.Answered.{stays}
use Rattle.graph_machine.proofs.Links.{into_listed, into_missing}
use Rattle.graph_machine.proofs.Told.{told, any_ok}
use Rattle.graph_machine.proofs.machine.Machine.list_in.Goals as goal

pub returns-then-has_twin-clause-allowed : goal.returns-then-has_twin-clause-allowed
returns-then-has_twin-clause-allowed c =
    into_listed (state_of c.args.self.now) c.args.target.now c.args.after.now _ (sym c.has_twin.ensures ∙ c.if-has_twin.true) c.in_ok-into_page.ensures

pub returns-clause-allowed : goal.returns-clause-allowed
returns-clause-allowed c =
    told c.twin_not_found.result _ (Allows (state_of c.args.self.now) (asks.ListIn c.args.target.now c.args.after.now)) c.twin_not_found.ensures
    (into_missing (state_of c.args.self.now) c.args.target.now c.args.after.now (sym c.has_twin.ensures ∙ c.if-has_twin.false))

pub returns-clause-follows : goal.returns-clause-follows
returns-clause-follows c = any_ok c.twin_not_found.result (λ reply. follows (state_of c.args.self.now) (asks.ListIn c.args.target.now c.args.after.now) reply ≡ state_of c.args.self.now)
    (λ reply. stays (state_of c.args.self.now) (asks.ListIn c.args.target.now c.args.after.now) (answer_of reply) refl)

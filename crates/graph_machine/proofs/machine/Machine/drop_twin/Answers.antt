use Rattle.std.proofs.Common.{◌≡◌, ◌∙◌, sym, refl}
use Rattle.graph_asks.specs.declared.ask.Ask.TheVariants as asks
use Rattle.graph_steps.specs.Steps.{Allows, follows}
use Rattle.graph_steps.specs.held.Held.{state_of}
use Rattle.graph_machine.proofs.Twins.{no_twin_to_drop, had_twin}
use Rattle.graph_machine.proofs.Told.{told}
use Rattle.graph_machine.proofs.machine.Machine.drop_twin.Goals as goal

pub drop_there-requires : goal.drop_there-requires
drop_there-requires c = record { there = sym c.has_twin.ensures ∙ c.if-has_twin.true }

pub returns-clause-allowed : goal.returns-clause-allowed
returns-clause-allowed c =
    told c.twin_not_found.result _ (Allows (state_of c.args.self.now) (asks.DropTwin c.args.id.now)) c.twin_not_found.ensures
    (no_twin_to_drop (state_of c.args.self.now) c.args.id.now (sym c.has_twin.ensures ∙ c.if-has_twin.false))

pub returns-clause-follows : goal.returns-clause-follows
returns-clause-follows c =
    told c.twin_not_found.result _ (λ reply. state_of c.args.self.now ≡ follows (state_of c.args.self.now) (asks.DropTwin c.args.id.now) reply) c.twin_not_found.ensures refl

pub returns-clause-free : goal.returns-clause-free
returns-clause-free c = λ told_done. absurd (had_twin (state_of c.args.self.now) c.args.id.now told_done (sym c.has_twin.ensures ∙ c.if-has_twin.false))

use Rattle.std.proofs.Common.{◌≡◌, ◌∙◌, sym, ap, refl}
use Rattle.std.specs.Option.{option_map, option_copied}
use Rattle.graph_asks.specs.declared.ask.Ask.TheVariants as asks
use Rattle.graph_steps.specs.Steps.{Allows, follows}
use Rattle.graph_steps.specs.held.Held.{state_of, link_of}
use Rattle.graph_machine.proofs.Twins.{twin_dropped, twin_used, had_no_use}
use Rattle.graph_machine.proofs.Told.{told}
use Rattle.graph_machine.proofs.machine.Machine.drop_there.Goals as goal

pub take_twin-requires-clause-unused : goal.take_twin-requires-clause-unused
take_twin-requires-clause-unused c = sym c.user_of.ensures ∙ ap (λ o. option_map link_of (option_copied o)) c.in_default.is

pub returns-in-Some-clause-allowed : goal.returns-in-Some-clause-allowed
returns-in-Some-clause-allowed c =
    told c.twin_in_use.result _ (Allows (state_of c.args.self.now) (asks.DropTwin c.args.id.now)) c.twin_in_use.ensures
    (twin_used (state_of c.args.self.now) c.args.id.now (link_of c.in-Some.by.now) c.requires.there (ap (λ o. option_map link_of (option_copied o)) (sym c.in-Some.is) ∙ c.user_of.ensures))

pub returns-in-Some-clause-follows : goal.returns-in-Some-clause-follows
returns-in-Some-clause-follows c =
    told c.twin_in_use.result _ (λ reply. state_of c.args.self.now ≡ follows (state_of c.args.self.now) (asks.DropTwin c.args.id.now) reply) c.twin_in_use.ensures refl

pub returns-in-Some-clause-free : goal.returns-in-Some-clause-free
returns-in-Some-clause-free c = λ told_done.
    absurd (had_no_use (state_of c.args.self.now) c.args.id.now (link_of c.in-Some.by.now) told_done c.requires.there (ap (λ o. option_map link_of (option_copied o)) (sym c.in-Some.is) ∙ c.user_of.ensures))

pub returns-clause-allowed : goal.returns-clause-allowed
returns-clause-allowed c =
    twin_dropped (state_of c.args.self.now) c.args.id.now c.requires.there (sym c.user_of.ensures ∙ ap (λ o. option_map link_of (option_copied o)) c.in_default.is)

use Rattle.std.proofs.Common.{◌≡◌, ◌∙◌, sym, ap, refl}
use Rattle.std.specs.Option.{option_map, option_copied, is_some}
use Rattle.graph_asks.specs.Answers.{answer_of}
use Rattle.graph_asks.specs.declared.ask.Ask.TheVariants as asks
use Rattle.graph_steps.specs.bodies.Kept.{twin_view}
use Rattle.graph_steps.specs.Steps.{Allows, follows}
use Rattle.graph_steps.specs.held.Held.{state_of}
use Rattle.graph_machine.proofs.Answered.{stays}
use Rattle.graph_machine.proofs.Links.{source_missing}
use Rattle.graph_machine.proofs.Told.{told, any_ok}
use Rattle.graph_machine.proofs.machine.Machine.get_rel.Goals as goal

pub rel_of-requires : goal.rel_of-requires
rel_of-requires c = record { there = sym (ap is_some (ap (λ o. option_map twin_view (option_copied o)) (sym c.in-Some.is) ∙ c.twin.ensures.at)) }

pub returns-in-Some-clause-follows : goal.returns-in-Some-clause-follows
returns-in-Some-clause-follows c = any_ok c.rel_of.result (λ reply. follows (state_of c.args.self.now) (asks.GetRel c.args.source.now c.args.id.now) reply ≡ state_of c.args.self.now)
    (λ reply. stays (state_of c.args.self.now) (asks.GetRel c.args.source.now c.args.id.now) (answer_of reply) refl)

pub returns-in-None-clause-allowed : goal.returns-in-None-clause-allowed
returns-in-None-clause-allowed c =
    told c.twin_not_found.result _ (Allows (state_of c.args.self.now) (asks.GetRel c.args.source.now c.args.id.now)) c.twin_not_found.ensures
    (source_missing (state_of c.args.self.now) c.args.source.now c.args.id.now (ap (λ o. option_map twin_view (option_copied o)) (sym c.in-None.is) ∙ c.twin.ensures.at))

pub returns-in-None-clause-follows : goal.returns-in-None-clause-follows
returns-in-None-clause-follows c = any_ok c.twin_not_found.result (λ reply. follows (state_of c.args.self.now) (asks.GetRel c.args.source.now c.args.id.now) reply ≡ state_of c.args.self.now)
    (λ reply. stays (state_of c.args.self.now) (asks.GetRel c.args.source.now c.args.id.now) (answer_of reply) refl)

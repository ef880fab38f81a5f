use Rattle.std.proofs.Common.{◌≡◌, ◌∙◌, IfSome, sym, ap, subst, refl}
use Rattle.std.specs.Option.{option_map, option_copied}
use Rattle.graph_asks.specs.Answers.{answer_of}
use Rattle.graph_asks.specs.declared.ask.Ask.TheVariants as asks
use Rattle.graph_steps.specs.bodies.Kept.{twin_view, IsKeptTwin}
use Rattle.graph_steps.specs.Steps.{Allows, follows}
use Rattle.graph_steps.specs.held.Held.{state_of}
use Rattle.graph_machine.proofs.Answered.{stays}
use Rattle.graph_machine.proofs.Told.{told, any_ok}
use Rattle.graph_machine.proofs.Twins.{part_of_none}
use Rattle.graph_machine.proofs.machine.Machine.get_part.Goals as goal

pub part_of-requires-clause-there : goal.part_of-requires-clause-there
part_of-requires-clause-there c = sym (ap (λ o. option_map twin_view (option_copied o)) (sym c.in-Some.is) ∙ c.twin.ensures.at)

pub part_of-requires-clause-kept : goal.part_of-requires-clause-kept
part_of-requires-clause-kept c = subst (λ o. IfSome (option_copied o) (λ t. IsKeptTwin (twin_view t))) c.in-Some.is c.twin.ensures.kept

pub returns-in-Some-clause-follows : goal.returns-in-Some-clause-follows
returns-in-Some-clause-follows c = any_ok c.part_of.result (λ reply. follows (state_of c.args.self.now) (asks.GetPart c.args.id.now c.args.name.now) reply ≡ state_of c.args.self.now)
    (λ reply. stays (state_of c.args.self.now) (asks.GetPart c.args.id.now c.args.name.now) (answer_of reply) refl)

pub returns-in-None-clause-allowed : goal.returns-in-None-clause-allowed
returns-in-None-clause-allowed c =
    told c.twin_not_found.result _ (Allows (state_of c.args.self.now) (asks.GetPart c.args.id.now c.args.name.now)) c.twin_not_found.ensures
    (part_of_none (state_of c.args.self.now) c.args.id.now c.args.name.now (ap (λ o. option_map twin_view (option_copied o)) (sym c.in-None.is) ∙ c.twin.ensures.at))

pub returns-in-None-clause-follows : goal.returns-in-None-clause-follows
returns-in-None-clause-follows c = any_ok c.twin_not_found.result (λ reply. follows (state_of c.args.self.now) (asks.GetPart c.args.id.now c.args.name.now) reply ≡ state_of c.args.self.now)
    (λ reply. stays (state_of c.args.self.now) (asks.GetPart c.args.id.now c.args.name.now) (answer_of reply) refl)

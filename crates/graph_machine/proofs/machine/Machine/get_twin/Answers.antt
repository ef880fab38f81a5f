use Rattle.std.proofs.Common.{◌≡◌, ◌∙◌, IfSome, sym, ap, subst, refl}
use Rattle.std.specs.Option.{option_map, option_copied}
use Rattle.graph_asks.specs.Answers.{body}
use Rattle.graph_asks.specs.declared.ask.Ask.TheVariants as asks
use Rattle.graph_steps.specs.bodies.Kept.{twin_view, IsKeptTwin}
use Rattle.graph_steps.specs.Steps.{Allows, Answers, follows}
use Rattle.graph_steps.specs.held.Held.{state_of}
use Rattle.graph_machine.proofs.Told.{told}
use Rattle.graph_machine.proofs.Twins.{twin_found, twin_missing}
use Rattle.graph_machine.proofs.machine.Machine.get_twin.Goals as goal

pub twin_tree-requires : goal.twin_tree-requires
twin_tree-requires c = subst (λ o. IfSome (option_copied o) (λ t. IsKeptTwin (twin_view t))) c.in-Some.is c.twin.ensures.kept

pub returns-in_ok-twin_tree-in-Some-clause-allowed : goal.returns-in_ok-twin_tree-in-Some-clause-allowed
returns-in_ok-twin_tree-in-Some-clause-allowed c =
    subst (λ v. Answers (state_of c.args.self.now) (asks.GetTwin c.args.id.now) (body v)) (sym c.in_ok-twin_tree-in-Some.ensures)
    (twin_found (state_of c.args.self.now) c.args.id.now (twin_view c.in-Some.twin.now) (ap (λ o. option_map twin_view (option_copied o)) (sym c.in-Some.is) ∙ c.twin.ensures.at))

pub returns-in-None-clause-allowed : goal.returns-in-None-clause-allowed
returns-in-None-clause-allowed c =
    told c.twin_not_found.result _ (Allows (state_of c.args.self.now) (asks.GetTwin c.args.id.now)) c.twin_not_found.ensures
    (twin_missing (state_of c.args.self.now) c.args.id.now (ap (λ o. option_map twin_view (option_copied o)) (sym c.in-None.is) ∙ c.twin.ensures.at))

pub returns-in-None-clause-follows : goal.returns-in-None-clause-follows
returns-in-None-clause-follows c =
    told c.twin_not_found.result _ (λ reply. follows (state_of c.args.self.now) (asks.GetTwin c.args.id.now) reply ≡ state_of c.args.self.now) c.twin_not_found.ensures refl

use Rattle.std.proofs.Common.{◌≡◌, ◌∙◌, sym, ap, subst, refl, Bool, Bor}
use Rattle.std.specs.Option.{option_map}
use Rattle.dtdl_terms.specs.declared.interface.Interface.{Interface}
use Rattle.graph_asks.specs.Answers.{body}
use Rattle.graph_asks.specs.declared.ask.Ask.TheVariants as asks
use Rattle.model_life.specs.Models.{model_of, model_at}
use Rattle.graph_steps.specs.Steps.{Allows, Answers, follows}
use Rattle.graph_steps.specs.held.Held.{state_of}
use Rattle.graph_machine.proofs.Answered.{found, missing}
use Rattle.graph_machine.proofs.Told.{told}
use Rattle.graph_machine.proofs.machine.Machine.get_model.Goals as goal

pub returns-in_ok-model_tree-in-Some-clause-allowed : goal.returns-in_ok-model_tree-in-Some-clause-allowed
returns-in_ok-model_tree-in-Some-clause-allowed c =
    subst (λ v. Answers (state_of c.args.self.now) (asks.GetModel c.args.id.now) (body v)) (sym c.in_ok-model_tree-in-Some.ensures)
    (found (state_of c.args.self.now) c.args.id.now (model_of c.in-Some.interface.now c.in-Some.on)
    (ap (λ h. model_at c.args.id.now h.models) (sym c.self.view_is) ∙ sym c.get.ensures ∙ ap (option_map (λ (m : Bor Interface × Bool). model_of m.0.now m.1)) c.in-Some.is))

pub returns-in-None-clause-allowed : goal.returns-in-None-clause-allowed
returns-in-None-clause-allowed c =
    told c.model_not_found.result _ (Allows (state_of c.args.self.now) (asks.GetModel c.args.id.now)) c.model_not_found.ensures
    (missing (state_of c.args.self.now) c.args.id.now
    (ap (λ h. model_at c.args.id.now h.models) (sym c.self.view_is) ∙ sym c.get.ensures ∙ ap (option_map (λ (m : Bor Interface × Bool). model_of m.0.now m.1)) c.in-None.is))

pub returns-in-None-clause-follows : goal.returns-in-None-clause-follows
returns-in-None-clause-follows c =
    told c.model_not_found.result _ (λ reply. follows (state_of c.args.self.now) (asks.GetModel c.args.id.now) reply ≡ state_of c.args.self.now) c.model_not_found.ensures refl

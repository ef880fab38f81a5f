use Rattle.std.proofs.Common.{◌∙◌, sym, ap, subst}
use Rattle.std.specs.Option.{option_copied}
use Rattle.graph_asks.specs.Answers.{refused}
use Rattle.graph_asks.specs.declared.ask.Ask.TheVariants as asks
use Rattle.graph_asks.specs.declared.refusal.Refusal.TheVariants as refusals
use Rattle.model_life.specs.Models.{first_user}
use Rattle.graph_steps.specs.Steps.{Answers}
use Rattle.graph_steps.specs.held.Held.{state_of}
use Rattle.graph_machine.proofs.Answered.{some_none, in_use}
use Rattle.graph_machine.proofs.machine.Machine.model_in_use.Goals as goal

pub unreachable-requires : goal.unreachable-requires
unreachable-requires c =
    some_none (first_user c.args.id.now c.args.self.now.models) c.requires.used
    (ap (λ h. first_user c.args.id.now h.models) (sym c.self.view_is) ∙ sym c.used_by.ensures ∙ ap option_copied c.in-None.is)

pub returns-clause-allowed : goal.returns-clause-allowed
returns-clause-allowed c =
    subst (λ t. Answers (state_of c.args.self.now) (asks.DropModel c.args.id.now) (refused (refusals.ModelInUse t))) (sym c.in_ok-id_text-in-Some.ensures)
    (in_use (state_of c.args.self.now) c.args.id.now c.in-Some.by.now c.requires.there
    (ap (λ h. first_user c.args.id.now h.models) (sym c.self.view_is) ∙ sym c.used_by.ensures ∙ ap option_copied c.in-Some.is))

use Rattle.std.proofs.Common.{[], ap, ◌∙◌, ℕ}
use Rattle.std.specs.declared.option.Option.{Option}
use Rattle.atomic_table.specs.Table.{Me}
use Rattle.one_history.specs.declared.history.Turn.TheVariants.{Waits}
use Rattle.one_history.specs.declared.history.View.{View}
use Rattle.one_history.specs.declared.tests.Ask.{Ask}
use Rattle.one_history.specs.declared.tests.Number.{Number}
use Rattle.one_history.specs.Machinery.Rules.{view, saw}
use Rattle.one_history.proofs.tests.call_at_once.Goals as goal

pub serve-answer-requires-clause-ready : goal.serve-answer-requires-clause-ready
serve-answer-requires-clause-ready g c =
    let r = c.requires.1 in
    let s = c.await_turn.ensures.served r.0 (c.draw-ticket.ensures.drawn ∙ ap (λ (z : Me (Option Number) (View Number Ask ℕ)). (view z.0.members [] (Waits c.draw-ticket.result), [])) r.2) in
    (saw r.0 s.0, c.draw-ticket.result, s.1, s.4, s.3)

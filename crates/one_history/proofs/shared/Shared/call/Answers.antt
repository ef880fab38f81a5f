use Rattle.std.proofs.Common.{rules, [], sym, ap, ◌∙◌, subst}
use Rattle.std.specs.Prelude.{IfOk, OnErr}
use Rattle.std.specs.declared.option.Option.{Option}
use Rattle.atomic_table.specs.Table.{Me}
use Rattle.one_history.specs.declared.history.Turn.TheVariants.{Waits}
use Rattle.one_history.specs.declared.history.View.{View}
use Rattle.one_history.specs.Histories.{GrowsByCall, GrowsByOthers}
use Rattle.one_history.specs.Machinery.Rules.{view, saw}
use Rattle.one_history.specs.Passes.{seen_of, number_of}
use Rattle.one_history.proofs.Told.{me_number, me_made, called}
use Rattle.one_history.proofs.shared.Shared.call.Goals as goal

pub await_turn-requires-clause-waits : goal.await_turn-requires-clause-waits
await_turn-requires-clause-waits g c = let r = c.requires.own.1 in (r.0, c.draw-ticket.ensures.drawn ∙ ap (λ (z : Me (Option g.row.O.Denot) (View g.row.O.Denot g.row.O-Ask.Denot g.row.O-Reply.Denot)). (view z.0.members [] (Waits c.draw-ticket.result), [])) r.2)

pub serve-answer-requires-clause-ready : goal.serve-answer-requires-clause-ready
serve-answer-requires-clause-ready g c = let r = c.requires.own.1 in
    let s = c.await_turn.ensures.served r.0 (c.draw-ticket.ensures.drawn ∙ ap (λ (z : Me (Option g.row.O.Denot) (View g.row.O.Denot g.row.O-Ask.Denot g.row.O-Reply.Denot)). (view z.0.members [] (Waits c.draw-ticket.result), [])) r.2) in
    (saw r.0 s.0, c.draw-ticket.result, s.1, s.4, s.3)

pub returns-clause-own : goal.returns-clause-own
returns-clause-own g c =
    let r = c.requires.own.1 in
    let s = c.await_turn.ensures.served r.0 (c.draw-ticket.ensures.drawn ∙ ap (λ (z : Me (Option g.row.O.Denot) (View g.row.O.Denot g.row.O-Ask.Denot g.row.O-Reply.Denot)). (view z.0.members [] (Waits c.draw-ticket.result), [])) r.2) in
    let k = called g.O.Object.state g.O.Object.sound g.O.Object.allowed g.O.Object.follows c.serve-answer.result c.serve-answer.new.seat.me r.0 s.0 c.args.ask.now c.args.self.now.table.shared.key.value r.1 s.2 c.requires.sound
    (c.serve-answer.ensures.answered (saw r.0 s.0) c.draw-ticket.result s.1 s.4) (c.serve-answer.ensures.refused (saw r.0 s.0) c.draw-ticket.result s.1 s.4) in
    let m = k.0 in (
      (search rules, (m.0, m.1, m.2)),
      (me_number m.0 _ m.2 ∙ m.3 ∙ sym (me_number r.0 _ r.2), me_made m.0 _ m.2 ∙ m.4 ∙ sym (me_made r.0 _ r.2)),
    )

pub returns-clause-answered : goal.returns-clause-answered
returns-clause-answered g c =
    let M : Type 0 = Me (Option g.row.O.Denot) (View g.row.O.Denot g.row.O-Ask.Denot g.row.O-Reply.Denot) in
    let r = c.requires.own.1 in
    let s = c.await_turn.ensures.served r.0 (c.draw-ticket.ensures.drawn ∙ ap (λ (z : M). (view z.0.members [] (Waits c.draw-ticket.result), [])) r.2) in
    let k = called g.O.Object.state g.O.Object.sound g.O.Object.allowed g.O.Object.follows c.serve-answer.result c.serve-answer.new.seat.me r.0 s.0 c.args.ask.now c.args.self.now.table.shared.key.value r.1 s.2 c.requires.sound
    (c.serve-answer.ensures.answered (saw r.0 s.0) c.draw-ticket.result s.1 s.4) (c.serve-answer.ensures.refused (saw r.0 s.0) c.draw-ticket.result s.1 s.4) in
    subst (λ (z : M). IfOk c.serve-answer.result (λ x. GrowsByCall (number_of z.0.members) c.args.ask.now x (seen_of z.0.members) (seen_of c.serve-answer.new.seat.me.0.members))) (sym r.2) k.1

pub returns-clause-refused : goal.returns-clause-refused
returns-clause-refused g c =
    let M : Type 0 = Me (Option g.row.O.Denot) (View g.row.O.Denot g.row.O-Ask.Denot g.row.O-Reply.Denot) in
    let r = c.requires.own.1 in
    let s = c.await_turn.ensures.served r.0 (c.draw-ticket.ensures.drawn ∙ ap (λ (z : M). (view z.0.members [] (Waits c.draw-ticket.result), [])) r.2) in
    let k = called g.O.Object.state g.O.Object.sound g.O.Object.allowed g.O.Object.follows c.serve-answer.result c.serve-answer.new.seat.me r.0 s.0 c.args.ask.now c.args.self.now.table.shared.key.value r.1 s.2 c.requires.sound
    (c.serve-answer.ensures.answered (saw r.0 s.0) c.draw-ticket.result s.1 s.4) (c.serve-answer.ensures.refused (saw r.0 s.0) c.draw-ticket.result s.1 s.4) in
    subst (λ (z : M). OnErr c.serve-answer.result (GrowsByOthers (number_of z.0.members) (seen_of z.0.members) (seen_of c.serve-answer.new.seat.me.0.members))) (sym r.2) k.2

pub returns-clause-history : goal.returns-clause-history
returns-clause-history g c =
    let M : Type 0 = Me (Option g.row.O.Denot) (View g.row.O.Denot g.row.O-Ask.Denot g.row.O-Reply.Denot) in
    let r = c.requires.own.1 in
    let s = c.await_turn.ensures.served r.0 (c.draw-ticket.ensures.drawn ∙ ap (λ (z : M). (view z.0.members [] (Waits c.draw-ticket.result), [])) r.2) in
    (called g.O.Object.state g.O.Object.sound g.O.Object.allowed g.O.Object.follows c.serve-answer.result c.serve-answer.new.seat.me r.0 s.0 c.args.ask.now c.args.self.now.table.shared.key.value r.1 s.2 c.requires.sound
    (c.serve-answer.ensures.answered (saw r.0 s.0) c.draw-ticket.result s.1 s.4) (c.serve-answer.ensures.refused (saw r.0 s.0) c.draw-ticket.result s.1 s.4)).3

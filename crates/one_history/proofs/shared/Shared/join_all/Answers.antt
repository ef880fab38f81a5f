use Rattle.std.proofs.Common.{rules, ◌≡◌, List, [], ◌∷◌, ◌++◌, sym, ap, ◌∙◌, subst, append_assoc}
use Rattle.std.specs.Prelude.{Contains}
use Rattle.std.specs.declared.option.Option.{Option}
use Rattle.atomic_table.specs.Table.{Me}
use Rattle.atomic_table.specs.declared.shared.Seat.{Seat}
use Rattle.one_history.specs.declared.history.Member.{Member}
use Rattle.one_history.specs.declared.history.View.{View}
use Rattle.one_history.specs.declared.shared.Pass.{Pass}
use Rattle.one_history.specs.Passes.{IsPassOf, members_of}
use Rattle.one_history.proofs.Asked.{asks_join}
use Rattle.one_history.proofs.Closing.{contains_longer, contains_last, members_append}
use Rattle.one_history.proofs.shared.Shared.join_all.Goals as goal

pub loop-pass-init : goal.loop-pass-init
loop-pass-init g c =
    let S : Type 0 = Seat (Option g.row.O.Denot) (View g.row.O.Denot g.row.O-Ask.Denot g.row.O-Reply.Denot) in
    let P : Type 0 = Pass g.row.O.Denot g.row.O-Ask.Denot g.row.O-Reply.Denot in
    let ps : List P = c.pop.new.self.items in
    let p : P = c.in-Some.last in
    let all : c.args.passes.items ≡ ps ++ p ∷ [] = c.in-Some.ensures.items in
    let owns : (q : P) → Contains (ps ++ p ∷ []) q → IsPassOf c.args.self.now q = λ q h. c.requires.own q (subst (λ (z : List P). Contains z q) (sym all) h) in
    let mine = owns p (contains_last g.O.Object.state g.O.Object.sound g.O.Object.allowed g.O.Object.follows c.args.self.now.table.shared.key.value ps p) in
    record {
      own = λ q h. owns q (contains_longer g.O.Object.state g.O.Object.sound g.O.Object.allowed g.O.Object.follows c.args.self.now.table.shared.key.value ps p q h);
      table = ap (λ (z : S). z.table_id) c.into_seat-whole.ensures ∙ mine.0;
      all = ap (λ (z : S). members_of ps ++ z.me.0.members) c.into_seat-whole.ensures ∙ sym (members_append g.O.Object.state g.O.Object.sound g.O.Object.allowed g.O.Object.follows c.args.self.now.table.shared.key.value ps p) ∙ ap (λ (z : List P). members_of z) (sym all);
      idle = ap (λ (z : S). z.me.0.turn) c.into_seat-whole.ensures ∙ ap (λ (z : Me (Option g.row.O.Denot) (View g.row.O.Denot g.row.O-Ask.Denot g.row.O-Reply.Denot)). z.0.turn) mine.1.2;
    }

pub join_seat-requires : goal.join_seat-requires
join_seat-requires g c =
    let S : Type 0 = Seat (Option g.row.O.Denot) (View g.row.O.Denot g.row.O-Ask.Denot g.row.O-Reply.Denot) in
    let M : Type 0 = Me (Option g.row.O.Denot) (View g.row.O.Denot g.row.O-Ask.Denot g.row.O-Reply.Denot) in
    let P : Type 0 = Pass g.row.O.Denot g.row.O-Ask.Denot g.row.O-Reply.Denot in
    let ps : List P = c.pop-in-loop-pass.new.self.items in
    let p : P = c.in-Some-pop.pass in
    let mine = c.loop-pass.invariant.own p (subst (λ (z : List P). Contains z p) (sym c.in-Some-pop.ensures.items) (contains_last g.O.Object.state g.O.Object.sound g.O.Object.allowed g.O.Object.follows c.args.self.now.table.shared.key.value ps p)) in
    let is : c.into_seat.result ≡ p.seat = c.into_seat.ensures in (
      c.loop-pass.invariant.table,
      ap (λ (z : S). z.table_id) is ∙ mine.0,
      ap (λ (z : S). z.me.1) is ∙ ap (λ (z : M). z.1) mine.1.2,
      search rules,
      asks_join _ _ _ _ _ _ c.loop-pass.whole.me _ c.into_seat.result.me c.loop-pass.invariant.idle (ap (λ (z : S). z.me.0.turn) is ∙ ap (λ (z : M). z.0.turn) mine.1.2),
    )

pub loop-pass-preserved : goal.loop-pass-preserved
loop-pass-preserved g c =
    let S : Type 0 = Seat (Option g.row.O.Denot) (View g.row.O.Denot g.row.O-Ask.Denot g.row.O-Reply.Denot) in
    let M : Type 0 = Me (Option g.row.O.Denot) (View g.row.O.Denot g.row.O-Ask.Denot g.row.O-Reply.Denot) in
    let P : Type 0 = Pass g.row.O.Denot g.row.O-Ask.Denot g.row.O-Reply.Denot in
    let ps : List P = c.pop-in-loop-pass.new.self.items in
    let p : P = c.in-Some-pop.pass in
    let all : c.loop-pass.passes.items ≡ ps ++ p ∷ [] = c.in-Some-pop.ensures.items in
    let is : c.into_seat.result ≡ p.seat = c.into_seat.ensures in
    let old : List (Member g.row.O.Denot g.row.O-Ask.Denot g.row.O-Reply.Denot) = c.loop-pass.whole.me.0.members in
    record {
      own = λ q h. c.loop-pass.invariant.own q (subst (λ (z : List P). Contains z q) (sym all) (contains_longer g.O.Object.state g.O.Object.sound g.O.Object.allowed g.O.Object.follows c.args.self.now.table.shared.key.value ps p q h));
      table = c.join_seat.ensures.0 ∙ c.loop-pass.invariant.table;
      all = ap (λ (z : M). members_of ps ++ z.0.members) c.join_seat.ensures.2
          ∙ ap (λ (z : S). members_of ps ++ (z.me.0.members ++ old)) is
          ∙ sym (append_assoc (members_of ps) p.seat.me.0.members old)
          ∙ ap (λ (z : List (Member g.row.O.Denot g.row.O-Ask.Denot g.row.O-Reply.Denot)). z ++ old) (sym (members_append g.O.Object.state g.O.Object.sound g.O.Object.allowed g.O.Object.follows c.args.self.now.table.shared.key.value ps p) ∙ ap (λ (z : List P). members_of z) (sym all))
          ∙ c.loop-pass.invariant.all;
      idle = ap (λ (z : M). z.0.turn) c.join_seat.ensures.2 ∙ c.loop-pass.invariant.idle;
    }

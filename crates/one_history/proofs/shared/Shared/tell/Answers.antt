use Rattle.std.proofs.Common.{rules, [], ◌∷◌, sym, refl, ap, ◌∙◌, subst}
use Rattle.std.specs.declared.option.Option.{Option}
use mathlib.Core.List.{IsPrefix}
use Rattle.atomic_table.specs.Table.{Me}
use Rattle.one_history.specs.declared.history.View.{View}
use Rattle.one_history.specs.Histories.{IsHistory, GrowsByOthers}
use Rattle.one_history.specs.Machinery.Rules.{note, merged, saw}
use Rattle.one_history.specs.Passes.{seen_of, number_of}
use Rattle.one_history.proofs.Asked.{asks_note, asks_join, asks_look}
use Rattle.one_history.proofs.Told.{me_seen, me_number, me_made}
use Rattle.one_history.proofs.shared.Shared.tell.Goals as goal

pub split_seat-note-requires : goal.split_seat-note-requires
split_seat-note-requires g c = let r = c.requires.own.0.1 in (search rules, search rules, asks_note _ _ _ _ _ _ _ (r.0, r.2))

pub join_seat-requires : goal.join_seat-requires
join_seat-requires g c =
    let M : Type 0 = Me (Option g.row.O.Denot) (View g.row.O.Denot g.row.O-Ask.Denot g.row.O-Reply.Denot) in
    let r = c.requires.own.1.1 in
    let n = c.split_seat-note.ensures.4 in (
      search rules,
      search rules,
      ap (λ (z : M). z.1) n,
      search rules,
      asks_join _ _ _ _ _ _ c.args.to.now.seat.me _ c.split_seat-note.result.me (ap (λ (z : M). z.0.turn) r.2) (ap (λ (z : M). z.0.turn) n),
    )

pub load-requires : goal.load-requires
load-requires g c =
    let M : Type 0 = Me (Option g.row.O.Denot) (View g.row.O.Denot g.row.O-Ask.Denot g.row.O-Reply.Denot) in
    let a = c.requires.own.0.1 in
    let b = c.requires.own.1.1 in
    let noted = c.split_seat-note.ensures.4 ∙ ap (λ (z : M). (note z.0, [])) a.2 in
    let joined = c.join_seat.ensures.2 ∙ (λ i. (merged (b.2 i).0 (noted i).0, (b.2 i).1)) in
    (search rules, search rules, asks_look _ _ _ _ _ _ _ _ (b.0, a.0.seen ∷ [], joined))

pub returns-clause-from : goal.returns-clause-from
returns-clause-from g c =
    let a = c.requires.own.0.1 in
    let now = c.split_seat-note.ensures.2 ∙ a.2 in (
      (search rules, (a.0, a.1, now)),
      me_seen a.0 _ now ∙ sym (me_seen a.0 _ a.2),
      (me_number a.0 _ now ∙ sym (me_number a.0 _ a.2), me_made a.0 _ now ∙ sym (me_made a.0 _ a.2)),
    )

pub returns-clause-to : goal.returns-clause-to
returns-clause-to g c =
    let M : Type 0 = Me (Option g.row.O.Denot) (View g.row.O.Denot g.row.O-Ask.Denot g.row.O-Reply.Denot) in
    let a = c.requires.own.0.1 in
    let b = c.requires.own.1.1 in
    let noted = c.split_seat-note.ensures.4 ∙ ap (λ (z : M). (note z.0, [])) a.2 in
    let joined = c.join_seat.ensures.2 ∙ (λ i. (merged (b.2 i).0 (noted i).0, (b.2 i).1)) in
    let k = c.load.ensures.2 b.0 (a.0.seen ∷ []) joined in
    let n = saw b.0 k.0 in (
      (search rules, (n, b.1, k.3)),
      (me_number n _ k.3 ∙ sym (me_number b.0 _ b.2), me_made n _ k.3 ∙ sym (me_made b.0 _ b.2)),
    )

pub returns-clause-grow : goal.returns-clause-grow
returns-clause-grow g c =
    let M : Type 0 = Me (Option g.row.O.Denot) (View g.row.O.Denot g.row.O-Ask.Denot g.row.O-Reply.Denot) in
    let a = c.requires.own.0.1 in
    let b = c.requires.own.1.1 in
    let noted = c.split_seat-note.ensures.4 ∙ ap (λ (z : M). (note z.0, [])) a.2 in
    let joined = c.join_seat.ensures.2 ∙ (λ i. (merged (b.2 i).0 (noted i).0, (b.2 i).1)) in
    let k = c.load.ensures.2 b.0 (a.0.seen ∷ []) joined in
    subst (λ (z : M × M). GrowsByOthers (number_of z.0.0.members) (seen_of z.0.0.members) (seen_of z.1.0.members)) (λ i. (sym b.2 i, sym k.3 i)) k.1.0

pub returns-clause-told : goal.returns-clause-told
returns-clause-told g c =
    let M : Type 0 = Me (Option g.row.O.Denot) (View g.row.O.Denot g.row.O-Ask.Denot g.row.O-Reply.Denot) in
    let a = c.requires.own.0.1 in
    let b = c.requires.own.1.1 in
    let noted = c.split_seat-note.ensures.4 ∙ ap (λ (z : M). (note z.0, [])) a.2 in
    let joined = c.join_seat.ensures.2 ∙ (λ i. (merged (b.2 i).0 (noted i).0, (b.2 i).1)) in
    let k = c.load.ensures.2 b.0 (a.0.seen ∷ []) joined in
    subst (λ (z : M × M). IsPrefix (seen_of z.0.0.members) (seen_of z.1.0.members)) (λ i. (sym a.2 i, sym k.3 i)) (k.2 a.0.seen (0, refl))

pub returns-clause-history : goal.returns-clause-history
returns-clause-history g c =
    let M : Type 0 = Me (Option g.row.O.Denot) (View g.row.O.Denot g.row.O-Ask.Denot g.row.O-Reply.Denot) in
    let a = c.requires.own.0.1 in
    let b = c.requires.own.1.1 in
    let noted = c.split_seat-note.ensures.4 ∙ ap (λ (z : M). (note z.0, [])) a.2 in
    let joined = c.join_seat.ensures.2 ∙ (λ i. (merged (b.2 i).0 (noted i).0, (b.2 i).1)) in
    let k = c.load.ensures.2 b.0 (a.0.seen ∷ []) joined in
    subst (λ (z : g.row.O.Denot × M). IsHistory g.O.Object.sound g.O.Object.allowed g.O.Object.follows (g.O.Object.state z.0) (seen_of z.1.0.members)) (λ i. (b.1 i, sym k.3 i)) k.1.1

use Rattle.std.proofs.Common.{rules, ℕ, ◌+◌, List, [], ◌∷◌, ◌++◌, sym, ap, ◌∙◌, subst}
use Rattle.std.specs.declared.option.Option.{Option}
use Rattle.atomic_table.specs.Table.{Me}
use Rattle.one_history.specs.declared.history.Entry.{Entry}
use Rattle.one_history.specs.declared.history.View.{View}
use Rattle.one_history.specs.Histories.{IsHistory}
use Rattle.one_history.specs.Machinery.Rules.{grown, born, parent, child}
use Rattle.one_history.proofs.Asked.{asks_check, asks_cut}
use Rattle.one_history.proofs.Told.{me_seen, me_number, me_made}
use Rattle.one_history.proofs.shared.Shared.split.Goals as goal

pub load-requires : goal.load-requires
load-requires g c = let r = c.requires.own.1 in (search rules, search rules, asks_check _ _ _ _ _ _ _ _ (r.0, r.2))

pub split_seat-requires : goal.split_seat-requires
split_seat-requires g c = let r = c.requires.own.1 in let l = c.load.ensures.2 r.0 r.2 in (search rules, search rules, asks_cut _ _ _ _ _ _ _ (r.0, l.0 ∙ r.2))

pub returns-clause-old : goal.returns-clause-old
returns-clause-old g c = let r = c.requires.own.1 in let l = c.load.ensures.2 r.0 r.2 in
    let now = c.split_seat.ensures.2 ∙ ap (λ (z : Me (Option g.row.O.Denot) (View g.row.O.Denot g.row.O-Ask.Denot g.row.O-Reply.Denot)). (parent z.0, z.1)) (l.0 ∙ r.2) in (
      (search rules, (grown r.0, r.1, now)),
      me_seen (grown r.0) _ now ∙ sym (me_seen r.0 _ r.2),
      me_number (grown r.0) _ now ∙ sym (me_number r.0 _ r.2),
      me_made (grown r.0) _ now ∙ ap (λ (z : ℕ). z + 1) (sym (me_made r.0 _ r.2)),
    )

pub returns-clause-new : goal.returns-clause-new
returns-clause-new g c = let r = c.requires.own.1 in let l = c.load.ensures.2 r.0 r.2 in
    let now = c.split_seat.ensures.4 ∙ ap (λ (z : Me (Option g.row.O.Denot) (View g.row.O.Denot g.row.O-Ask.Denot g.row.O-Reply.Denot)). (child z.0, [])) (l.0 ∙ r.2) in (
      (search rules, (born r.0, r.1, now)),
      me_seen (born r.0) _ now ∙ sym (me_seen r.0 _ r.2),
      me_number (born r.0) _ now ∙ (λ i. sym (me_number r.0 _ r.2) i ++ sym (me_made r.0 _ r.2) i ∷ []),
      me_made (born r.0) _ now,
    )

pub returns-clause-history : goal.returns-clause-history
returns-clause-history g c = let r = c.requires.own.1 in let l = c.load.ensures.2 r.0 r.2 in
    subst (λ (z : g.row.O.Denot × List (Entry g.row.O-Ask.Denot g.row.O-Reply.Denot)). IsHistory g.O.Object.sound g.O.Object.allowed g.O.Object.follows (g.O.Object.state z.0) z.1) (λ i. (r.1 i, sym (me_seen r.0 _ r.2) i)) l.1

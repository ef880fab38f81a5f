use Rattle.std.proofs.Common.{◌≡◌, true, sym, ap, ◌∙◌}
use Rattle.std.specs.Option.{option_or}
use Rattle.std.specs.Ordering.{is_lt}
use Rattle.std.specs.List.{find, filter}
use Rattle.ordered_table.specs.Rows.{pair_cmp, flat}
use Rattle.ordered_table.proofs.Flat.{C}
use Rattle.ordered_table.proofs.Kept.{filter-alike, and_true}
use Rattle.ordered_table.proofs.After.{next-flat}
use Rattle.ordered_table.proofs.table.Table.after.Goals as goal

pub returns-in-Some : goal.returns-in-Some
returns-in-Some g c =
    let rows = c.self.inside.rows.entries in
    let at = c.args.at.now in
    ap (λ o. option_or o (find (λ _. true) (flat (filter (λ r. is_lt (C at r.0)) rows)))) c.in-Some.ensures
    ∙ sym (next-flat g.K.Ord.cmp at c.args.key.now rows c.self.invariant.0)
    ∙ ap (find (λ e. is_lt (pair_cmp g.K.Ord.cmp (at, c.args.key.now) e.0))) c.self.view_is

pub returns-in-None : goal.returns-in-None
returns-in-None g c =
    let rows = c.self.inside.rows.entries in
    let at = c.args.at.now in
    let past : c.range.result ≡ filter (λ r. is_lt (C at r.0)) rows = c.range.ensures.between tt ∙ filter-alike _ (λ r. is_lt (C at r.0)) (λ r. and_true (is_lt (C at r.0))) rows in
    c.first_of.ensures
    ∙ ap (λ rs. find (λ _. true) (flat rs)) past
    ∙ ap (λ o. option_or o (find (λ _. true) (flat (filter (λ r. is_lt (C at r.0)) rows)))) c.in-None.ensures
    ∙ sym (next-flat g.K.Ord.cmp at c.args.key.now rows c.self.invariant.0)
    ∙ ap (find (λ e. is_lt (pair_cmp g.K.Ord.cmp (at, c.args.key.now) e.0))) c.self.view_is

use Rattle.std.proofs.Common.{◌≡◌, [], Some, None, true, sym, ap, ◌∙◌}
use Rattle.std.specs.Option.{option_map, unwrap_or}
use Rattle.std.specs.Ordering.{is_lt}
use Rattle.std.specs.List.{find}
use Rattle.std.proofs.lemmas.Map.Lookups.{exact_bytes}
use Rattle.ordered_table.specs.Rows.{next_in}
use Rattle.ordered_table.proofs.After.{find-filter}
use Rattle.ordered_table.proofs.table.next_in_row.Goals as goal

pub returns-in-Some-next : goal.returns-in-Some-next
returns-in-Some-next g c =
    let found : find (λ e. is_lt (g.K.Ord.cmp c.args.key.now e.0)) c.in-Some.row.now ≡ Some (c.in-Some-next.next.now, c.in-Some-next.value.now)
    = sym (find-filter _ c.in-Some.row.now) ∙ ap (find (λ _. true)) (sym c.entries_after.ensures ∙ c.in-Some-next.ensures.steps) in
    ap (λ t. Some ((t, c.in-Some-next.next.now), c.in-Some-next.value.now)) (sym (exact_bytes c.args.at.now c.in-Some.text.now c.in-Some.ensures.same_key))
    ∙ ap (option_map (λ e. ((c.args.at.now, e.0), e.1))) (sym found)
    ∙ ap (λ o. next_in g.K.Ord.cmp c.args.at.now c.args.key.now (unwrap_or o [])) c.in-Some.ensures.value

pub returns-in-None-next : goal.returns-in-None-next
returns-in-None-next g c =
    let found : find (λ e. is_lt (g.K.Ord.cmp c.args.key.now e.0)) c.in-Some.row.now ≡ None
    = sym (find-filter _ c.in-Some.row.now) ∙ ap (find (λ _. true)) (sym c.entries_after.ensures ∙ c.in-None-next.ensures.steps.0) in
    ap (option_map (λ e. ((c.args.at.now, e.0), e.1))) (sym found)
    ∙ ap (λ o. next_in g.K.Ord.cmp c.args.at.now c.args.key.now (unwrap_or o [])) c.in-Some.ensures.value

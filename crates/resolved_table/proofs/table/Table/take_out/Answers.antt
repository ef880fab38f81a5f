use Rattle.std.proofs.Common.{◌+◌, drop, sym, ap, ◌∙◌, arith}
use Rattle.resolved_table.specs.Machinery.Without.{without}
use Rattle.resolved_table.proofs.Entries.{drop_next, drop_all, without_one, without_none}
use Rattle.resolved_table.proofs.table.Table.take_out.Goals as goal

pub ids-preserved : goal.ids-preserved
ids-preserved c =
    ap (without (drop (c.ids.id-index + 1) c.args.ids.now)) c.remove.ensures.entries
    ∙ without_one c.id-item.result (drop (c.ids.id-index + 1) c.args.ids.now) c.ids.self c.remove.ensures.ordered
    ∙ ap (λ xs. without xs c.ids.self) (sym (drop_next c.args.ids.now c.ids.id-index c.id-item.result (omega (arith, c.ids-test.true)) c.id-item.is))
    ∙ c.ids.invariant

pub returns : goal.returns
returns c =
    sym (without_none c.ids.self)
    ∙ ap (λ xs. without xs c.ids.self) (sym (drop_all c.args.ids.now c.ids.id-index (omega (arith, c.ids-test.false))))
    ∙ c.ids.invariant

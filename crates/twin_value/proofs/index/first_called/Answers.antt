use Rattle.std.proofs.Common.{ap, sym, ◌∙◌}
use Rattle.twin_value.specs.Named.{is_called}
use Rattle.twin_value.proofs.Linked.{find_on, find_here, find_past}
use Rattle.twin_value.proofs.index.first_called.Goals as goal

pub loop-item-preserved : goal.loop-item-preserved
loop-item-preserved g c =
    find_on (λ x. is_called c.args.name.now (g.T.Keyed.key_of x)) c.args.items.now c.loop-item.item-index c.item-item.result c.loop-item-test.true c.item-item.is
    (ap (is_called c.args.name.now) (sym c.key.ensures) ∙ (sym c.is_called.ensures ∙ c.if-is_called.false))
    ∙ c.loop-item.invariant

pub returns-then-is_called : goal.returns-then-is_called
returns-then-is_called g c =
    sym (find_here (λ x. is_called c.args.name.now (g.T.Keyed.key_of x)) c.args.items.now c.loop-item.item-index c.item-item.result c.loop-item-test.true c.item-item.is
    (ap (is_called c.args.name.now) (sym c.key.ensures) ∙ (sym c.is_called.ensures ∙ c.if-is_called.true)))
    ∙ c.loop-item.invariant

pub returns : goal.returns
returns g c =
    sym (find_past (λ x. is_called c.args.name.now (g.T.Keyed.key_of x)) c.args.items.now c.loop-item.item-index c.loop-item-test.false) ∙ c.loop-item.invariant

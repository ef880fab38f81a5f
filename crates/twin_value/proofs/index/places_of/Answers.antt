use Rattle.twin_value.specs.Named.{is_called}
use Rattle.twin_value.proofs.Indexed.{find_more}
use Rattle.twin_value.proofs.index.places_of.Goals as goal

pub loop-item-preserved : goal.loop-item-preserved
loop-item-preserved g c = λ q.
    find_more (λ x. is_called q (g.T.Keyed.key_of x)) c.args.items.now c.loop-item.item-index c.item-item.result c.loop-item-test.true c.item-item.is _ _
    (c.loop-item.invariant q) (c.in_ok-add_item.ensures q)

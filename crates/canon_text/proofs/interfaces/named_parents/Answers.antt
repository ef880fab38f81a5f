use Rattle.canon_text.specs.Canonical.{parent_pair}
use Rattle.canon_text.proofs.Steps.{named_more}
use Rattle.canon_text.proofs.interfaces.named_parents.Goals as goal

pub loop-item-preserved : goal.loop-item-preserved
loop-item-preserved c =
    named_more parent_pair c.args.items.now c.loop-item.item-index c.item-item.result _ _ _ _ c.loop-item-test.true c.item-item.is c.loop-item.invariant c.in_ok-push_named.ensures c.as_str.ensures.same c.in_ok-value.ensures

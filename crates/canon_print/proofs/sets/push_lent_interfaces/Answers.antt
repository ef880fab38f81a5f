use Rattle.canon_text.specs.Canonical.{interface_value}
use Rattle.canon_print.proofs.Lists.{element_printed}
use Rattle.canon_print.proofs.sets.push_lent_interfaces.Goals as goal

pub loop-position-preserved : goal.loop-position-preserved
loop-position-preserved c = rw (c.in_ok-push_interface.ensures, c.in_ok-push_separator.ensures)
    (element_printed (λ i. interface_value i) _ _ c.args.interfaces.now c.loop-position.position c.index-interfaces-position.result c.loop-position-test.true c.index-interfaces-position.is c.loop-position.invariant)

use Rattle.canon_text.proofs.Pieces.{interface_printed}
use Rattle.canon_text.proofs.set_texts.push_interfaces.Goals as goal

pub loop-position-preserved : goal.loop-position-preserved
loop-position-preserved c = rw (c.in_ok-push_interface.ensures, c.in_ok-push_comma.ensures)
    (interface_printed _ _ c.args.interfaces.now c.loop-position.position c.index-interfaces-position.result c.loop-position-test.true c.index-interfaces-position.is c.loop-position.invariant)

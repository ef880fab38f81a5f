use Rattle.canon_text.specs.Canonical.{id_value}
use Rattle.canon_print.proofs.Lists.{element_printed}
use Rattle.canon_print.proofs.parents.push_lent_parents.Goals as goal

pub loop-position-preserved : goal.loop-position-preserved
loop-position-preserved c = rw (c.in_ok-push_quoted.ensures.printed, c.as_str.ensures.same, c.in_ok-push_separator.ensures)
    (element_printed (λ p. id_value p) _ _ c.args.parents.now c.loop-position.position c.index-parents-position.result c.loop-position-test.true c.index-parents-position.is c.loop-position.invariant)

use Rattle.dtdl_terms.specs.TermViews.{schema_term}
use Rattle.canon_text.specs.Canonical.{schema_value}
use Rattle.canon_print.proofs.Lists.{element_printed}
use Rattle.canon_print.proofs.declared.push_lent_schemas.Goals as goal

pub loop-position-preserved : goal.loop-position-preserved
loop-position-preserved c = rw (c.in_ok-push_schema.ensures, c.in_ok-push_separator.ensures)
    (element_printed (λ s. schema_value (schema_term s)) _ _ c.args.schemas.now c.loop-position.position c.index-schemas-position.result c.loop-position-test.true c.index-schemas-position.is c.loop-position.invariant)

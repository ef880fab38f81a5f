use Rattle.std.proofs.Common.{ap, ◌∙◌}
use Rattle.dtdl_terms.specs.TermViews.{schema_term}
use Rattle.canon_text.specs.Canonical.{schema_pair}
use Rattle.canon_print.specs.Machinery.Lent.{values_now}
use Rattle.canon_print.proofs.Lists.{list_printed}
use Rattle.canon_print.proofs.declared.push_schemas.Goals as goal

pub returns : goal.returns
returns c = list_printed (λ s. schema_pair (schema_term s)) _ _ _ c.as_slice.result.now c.args.schemas.now c.in_ok-push_str.ensures.bytes (ap values_now c.as_slice.ensures.value ∙ c.in_ok-list.ensures) c.in_ok-push_lent_schemas.ensures

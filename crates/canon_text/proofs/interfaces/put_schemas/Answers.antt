use Rattle.std.proofs.Common.{ap, map, ◌∙◌}
use Rattle.dtdl_terms.specs.TermViews.{schema_term}
use Rattle.dtdl_terms.specs.declared.schema.Schema.{Schema}
use Rattle.canon_text.specs.Objects.{list_in_order, unless_empty}
use Rattle.canon_text.specs.Canonical.{schema_pair}
use Rattle.canon_text.proofs.interfaces.put_schemas.Goals as goal

pub returns : goal.returns
returns c = λ parts same. c.in_ok-put.ensures parts (unless_empty list_in_order (map (λ (s : Schema). schema_pair (schema_term s)) c.args.items.now)) (c.in_ok-list.ensures ∙ ap (unless_empty list_in_order) c.in_ok-values.ensures) same

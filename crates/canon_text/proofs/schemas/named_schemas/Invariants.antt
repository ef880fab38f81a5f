use Rattle.std.proofs.Common.{◌≡◌, map, take}
use Rattle.json_tree.specs.View.{member_view}
use Rattle.dtdl_terms.specs.TermViews.{schema_term}
use Rattle.canon_text.specs.Canonical.{schema_pair}
use Rattle.canon_text.proofs.schemas.named_schemas.Given as goal

abbrev pub invariant-loop-item : goal.invariant-loop-item
invariant-loop-item l = map member_view l.members.items ≡ map (λ s. schema_pair (schema_term s)) (take l.item-index l.items)

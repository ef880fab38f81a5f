use Rattle.std.proofs.Common.{Some, refl}
use Rattle.json_tree.specs.View.{view}
use Rattle.canon_text.specs.Canonical.{element_parts}
use Rattle.canon_text.proofs.kinds.named.Goals as goal

pub returns : goal.returns
returns c = rw c.as_str.ensures.same at c.in_ok-put_text.ensures (element_parts (Some (view c.args.kind)) c.args.item.now.common) (c.in_ok-members.ensures (Some (view c.args.kind)) refl)

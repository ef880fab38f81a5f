use Rattle.std.proofs.Common.{◌≡◌, map, take}
use Rattle.json_tree.specs.View.{member_view}
use Rattle.canon_text.specs.Canonical.{interface_pair}
use Rattle.canon_text.proofs.set_texts.named_interfaces.Given as goal

abbrev pub invariant-loop-item : goal.invariant-loop-item
invariant-loop-item l = map member_view l.members.items ≡ map interface_pair (take l.item-index l.items)

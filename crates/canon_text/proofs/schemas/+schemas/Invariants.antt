use Rattle.std.proofs.Common.{◌≡◌, map, take}
use Rattle.json_tree.specs.View.{member_view}
use Rattle.canon_text.specs.Machinery.Pairs.{payload_named}
use Rattle.canon_text.proofs.schemas.+schemas.Given as goal

abbrev pub invariant-payloads-loop-item : goal.invariant-payloads-loop-item
invariant-payloads-loop-item l = map member_view l.members.items ≡ map payload_named (take l.item-index l.items)

use Rattle.std.proofs.Common.{◌≡◌, map, take}
use Rattle.json_tree.specs.View.{member_view}
use Rattle.canon_text.specs.Machinery.Pairs.{content_named}
use Rattle.canon_text.proofs.contents.+contents.Given as goal

abbrev pub invariant-named_contents-loop-item : goal.invariant-named_contents-loop-item
invariant-named_contents-loop-item l = map member_view l.members.items ≡ map content_named (take l.item-index l.items)

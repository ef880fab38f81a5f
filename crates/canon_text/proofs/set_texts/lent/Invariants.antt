use Rattle.std.proofs.Common.{◌≡◌, map, take}
use Rattle.canon_text.specs.Canonical.{interface_pair}
use Rattle.canon_text.specs.Machinery.Pairs.{pair_at}
use Rattle.canon_text.proofs.set_texts.lent.Given as goal

abbrev pub invariant-loop-interface : goal.invariant-loop-interface
invariant-loop-interface l = map pair_at l.list.items ≡ map interface_pair (take l.interface-index l.interfaces)

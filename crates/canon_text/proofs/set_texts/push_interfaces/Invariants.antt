use Rattle.std.proofs.Common.{◌≡◌, ◌++◌, map, drop, string_bytes}
use Rattle.json_tree.specs.Values.{elements_of}
use Rattle.json_tree.specs.Printing.{printed_elements}
use Rattle.canon_text.proofs.Pieces.{values_left, value_at}
use Rattle.canon_text.proofs.set_texts.push_interfaces.Given as goal

-- the text so far and that of the interfaces that are left are the whole
abbrev pub invariant-loop-position : goal.invariant-loop-position
invariant-loop-position l = string_bytes l.out ++ values_left l.position (map value_at (drop l.position l.interfaces))
    ≡ string_bytes l.fn.out ++ printed_elements (elements_of (map value_at l.interfaces))

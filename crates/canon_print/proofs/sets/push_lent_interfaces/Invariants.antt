use Rattle.std.proofs.Common.{◌≡◌, ◌++◌, map, drop, string_bytes}
use Rattle.json_tree.specs.Values.{elements_of}
use Rattle.json_tree.specs.Printing.{printed_elements}
use Rattle.canon_text.specs.Canonical.{interface_value}
use Rattle.canon_print.specs.Machinery.Bodies.{elements_left}
use Rattle.canon_print.proofs.sets.push_lent_interfaces.Given as goal

-- the text so far and that of the interfaces that are left are the whole
abbrev pub invariant-loop-position : goal.invariant-loop-position
invariant-loop-position l = string_bytes l.out ++ elements_left l.position (elements_of (map (λ i. interface_value i.now) (drop l.position l.interfaces)))
    ≡ string_bytes l.fn.out ++ printed_elements (elements_of (map (λ i. interface_value i.now) l.interfaces))

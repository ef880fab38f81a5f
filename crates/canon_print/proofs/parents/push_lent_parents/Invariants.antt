use Rattle.std.proofs.Common.{◌≡◌, ◌++◌, map, drop, string_bytes}
use Rattle.json_tree.specs.Values.{elements_of}
use Rattle.json_tree.specs.Printing.{printed_elements}
use Rattle.canon_text.specs.Canonical.{id_value}
use Rattle.canon_print.specs.Machinery.Bodies.{elements_left}
use Rattle.canon_print.proofs.parents.push_lent_parents.Given as goal

-- the text so far and that of the identifiers that are left are the whole
abbrev pub invariant-loop-position : goal.invariant-loop-position
invariant-loop-position l = string_bytes l.out ++ elements_left l.position (elements_of (map (λ p. id_value p.now) (drop l.position l.parents)))
    ≡ string_bytes l.fn.out ++ printed_elements (elements_of (map (λ p. id_value p.now) l.parents))

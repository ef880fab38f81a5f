use Rattle.std.proofs.Common.{◌≡◌, ◌++◌, map, drop, string_bytes}
use Rattle.json_tree.specs.Values.{elements_of}
use Rattle.json_tree.specs.Printing.{printed_elements}
use Rattle.canon_text.specs.Canonical.{enum_entry_value}
use Rattle.canon_print.specs.Machinery.Bodies.{elements_left}
use Rattle.canon_print.proofs.enums.push_lent_entries.Given as goal

-- the text so far and that of the entries that are left are the whole
abbrev pub invariant-loop-position : goal.invariant-loop-position
invariant-loop-position l = string_bytes l.out ++ elements_left l.position (elements_of (map (λ e. enum_entry_value e.now) (drop l.position l.entries)))
    ≡ string_bytes l.fn.out ++ printed_elements (elements_of (map (λ e. enum_entry_value e.now) l.entries))

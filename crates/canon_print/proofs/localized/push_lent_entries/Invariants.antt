use Rattle.std.proofs.Common.{◌≡◌, ◌++◌, map, drop, string_bytes}
use Rattle.json_tree.specs.Values.{members_of}
use Rattle.json_tree.specs.Printing.{printed_members}
use Rattle.canon_text.specs.Canonical.{entry_pair}
use Rattle.canon_print.specs.Machinery.Bodies.{entries_left}
use Rattle.canon_print.proofs.localized.push_lent_entries.Given as goal

-- the text so far and that of the entries that are left are the whole
abbrev pub invariant-loop-position : goal.invariant-loop-position
invariant-loop-position l = string_bytes l.out ++ entries_left l.position (members_of (map (λ e. entry_pair e.now) (drop l.position l.entries)))
    ≡ string_bytes l.fn.out ++ printed_members (members_of (map (λ e. entry_pair e.now) l.entries))

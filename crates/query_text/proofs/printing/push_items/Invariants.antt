use Rattle.std.proofs.Common.{◌≡◌, ◌++◌, drop, string_bytes, codes}
use Rattle.query_text.specs.Printed.{separated, item_text}
use Rattle.query_text.specs.Machinery.Parts.{left}
use Rattle.query_text.proofs.printing.push_items.Given as goal

abbrev pub invariant-items : goal.invariant-items
invariant-items l = string_bytes l.out ++ left (codes ",") item_text l.position (drop l.position l.items) ≡ string_bytes l.fn.out ++ separated (codes ",") item_text l.items

use Rattle.std.proofs.Common.{◌≡◌, ◌++◌, drop, string_bytes, codes}
use Rattle.query_text.specs.Printed.{separated, literal_text}
use Rattle.query_text.specs.Machinery.Parts.{left}
use Rattle.query_text.proofs.operands.push_literals.Given as goal

abbrev pub invariant-literals : goal.invariant-literals
invariant-literals l = string_bytes l.out ++ left (codes ",") literal_text l.position (drop l.position l.literals) ≡ string_bytes l.fn.out ++ separated (codes ",") literal_text l.literals

use Rattle.std.proofs.Common.{◌≡◌, ◌++◌, ℕ, List, drop, string_bytes, codes}
use Rattle.query_text.specs.Printed.{path_text}
use Rattle.query_text.specs.Machinery.Parts.{left}
use Rattle.query_text.proofs.operands.push_path.Given as goal

abbrev pub invariant-names : goal.invariant-names
invariant-names l = string_bytes l.out ++ left (codes ".") (λ (name : List ℕ). name) l.position (drop l.position l.path) ≡ string_bytes l.fn.out ++ path_text l.path

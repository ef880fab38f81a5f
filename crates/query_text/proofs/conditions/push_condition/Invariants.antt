use Rattle.std.proofs.Common.{◌≡◌, ◌++◌, string_bytes}
use Rattle.query_terms.specs.Conditions.{condition}
use Rattle.query_text.specs.Printed.{condition_text}
use Rattle.query_text.specs.Machinery.Pieces.{pending, load}
use Rattle.query_text.proofs.conditions.push_condition.Given as goal

abbrev pub invariant-pieces : goal.invariant-pieces
invariant-pieces l = string_bytes l.out ++ pending l.pieces.items ≡ string_bytes l.fn.out ++ condition_text l.least (condition l.cond)

abbrev pub decreases-pieces : goal.decreases-pieces
decreases-pieces l = load l.pieces.items

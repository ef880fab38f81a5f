use Rattle.std.proofs.Common.{◌≡◌, ◌++◌, drop, string_bytes, codes}
use Rattle.query_text.specs.Printed.{each_behind, join_text}
use Rattle.query_text.proofs.printing.push_joins.Given as goal

abbrev pub invariant-joins : goal.invariant-joins
invariant-joins l = string_bytes l.out ++ each_behind (codes " JOIN ") join_text (drop l.join-index l.joins) ≡ string_bytes l.fn.out ++ each_behind (codes " JOIN ") join_text l.joins

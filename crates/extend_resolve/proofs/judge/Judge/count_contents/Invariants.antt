use Rattle.std.proofs.Common.{◌≡◌, take}
use Rattle.std.specs.Prelude.{min}
use Rattle.extend_resolve.specs.Machinery.Judges.{nodes_in, counted_rest}
use Rattle.extend_resolve.proofs.judge.Judge.count_contents.Given as goal

abbrev pub invariant-numbers : goal.invariant-numbers
invariant-numbers l = l.total ≡ min (counted_rest (nodes_in l.self) l.index l.own (take l.number-index l.numbers)) 18446744073709551615

use Rattle.std.proofs.Common.{[], ◌∷◌}
use Rattle.json_tree.specs.Grammar.{tail}
use Rattle.json_read.specs.Machinery.Automaton.{one_tail}
use Rattle.json_read.proofs.TextSpans.{more_ends}
use Rattle.json_read.proofs.strings.second_end.Goals as goal

pub returns-clause-read : goal.returns-clause-read
returns-clause-read c s n = more_ends c.args.bytes.now s one_tail c.args.low c.args.high c.args.at c.in_ok-next.next (tail ∷ []) c.tail_end.result n c.in_ok-next.ensures c.tail_end.ensures.read

use Rattle.std.proofs.Common.{[], ◌∷◌}
use Rattle.json_tree.specs.Grammar.{tail}
use Rattle.json_read.specs.Machinery.Automaton.{two_tails}
use Rattle.json_read.proofs.TextSpans.{more_ends, narrows_two}
use Rattle.json_read.proofs.strings.third_end.Goals as goal

pub returns-clause-read : goal.returns-clause-read
returns-clause-read c s n = more_ends c.args.bytes.now s two_tails c.args.low c.args.high c.args.at c.in_ok-next.next (tail ∷ tail ∷ []) c.second_end.result n c.in_ok-next.ensures (c.second_end.ensures.read two_tails narrows_two)

use Rattle.json_read.specs.Machinery.Automaton.{one_tail}
use Rattle.json_read.proofs.TextSpans.{last_ends, narrows_one}
use Rattle.json_read.proofs.strings.tail_end.Goals as goal

pub returns-clause-read : goal.returns-clause-read
returns-clause-read c = last_ends c.args.bytes.now one_tail 0x80 0xBF c.args.at c.range_end.result narrows_one c.range_end.ensures

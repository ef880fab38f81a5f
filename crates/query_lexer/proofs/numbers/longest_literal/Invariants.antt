use Rattle.query_lexer.specs.Machinery.Spans.{IsBound}
use Rattle.query_lexer.proofs.numbers.longest_literal.Given as goal

abbrev pub invariant-lengths : goal.invariant-lengths
invariant-lengths l = IsBound l.bytes l.end

abbrev pub decreases-lengths : goal.decreases-lengths
decreases-lengths l = l.end

use Rattle.query_lexer.proofs.NumberSpans.{at_run, at_most}
use Rattle.query_lexer.proofs.numbers.most_bytes.Goals as goal

pub returns-then-len-lt-LONGEST_LITERAL : goal.returns-then-len-lt-LONGEST_LITERAL
returns-then-len-lt-LONGEST_LITERAL c =
    let len = c.number_len-len in
    at_run c.args.bytes.now len.result len.ensures.within len.ensures.all len.ensures.next

pub returns : goal.returns
returns c =
    let len = c.number_len-len in
    at_most c.args.bytes.now len.result len.ensures.within len.ensures.all c.if-len-lt-LONGEST_LITERAL.false

use Rattle.std.proofs.lemmas.Result.{err_from_is_err_and}
use Rattle.json_read.specs.Machinery.Automaton.{behind_minus}
use Rattle.json_read.proofs.NumberSpans.{reaches_more, fails_after, number_is_of, number_reads_of, number_fails}
use Rattle.json_read.proofs.scan.number_end.Goals as goal

pub returns-in_err-end-2-clause-read : goal.returns-in_err-end-2-clause-read
returns-in_err-end-2-clause-read c d k =
    let p = err_from_is_err_and c.from_residual-in_err-end-2.result c.from_residual-in_err-end-2.ensures.1 in
    let integer = c.in_ok-end.ensures.read in
    rw (p.1, p.2) (number_fails c.args.bytes.now c.args.at c.minus_end-start.result _ d k c.minus_end-start.ensures.read
    (fails_after c.args.bytes.now behind_minus integer.0 c.minus_end-start.result c.in_ok-end.end _ integer.1
    (c.in_err-end-2.ensures.read integer.0 integer.2)))

pub returns-clause-number : goal.returns-clause-number
returns-clause-number c =
    let integer = c.in_ok-end.ensures.read in
    let fraction = c.in_ok-end-2.ensures.read integer.0 integer.2 in
    number_is_of c.args.bytes.now fraction.0 c.args.at c.minus_end-start.result c.in_ok-end-2.end c.exponent_end.result c.minus_end-start.ensures.read
    (reaches_more c.args.bytes.now behind_minus integer.0 fraction.0 c.minus_end-start.result c.in_ok-end.end c.in_ok-end-2.end integer.1 fraction.1)
    (c.exponent_end.ensures.read fraction.0 fraction.2)

pub returns-clause-read : goal.returns-clause-read
returns-clause-read c d k =
    let integer = c.in_ok-end.ensures.read in
    let fraction = c.in_ok-end-2.ensures.read integer.0 integer.2 in
    number_reads_of c.args.bytes.now fraction.0 c.args.at c.minus_end-start.result c.in_ok-end-2.end c.exponent_end.result d k c.minus_end-start.ensures.read
    (reaches_more c.args.bytes.now behind_minus integer.0 fraction.0 c.minus_end-start.result c.in_ok-end.end c.in_ok-end-2.end integer.1 fraction.1)
    (c.exponent_end.ensures.read fraction.0 fraction.2)

use Rattle.std.proofs.lemmas.Result.{err_from_is_err_and}
use Rattle.json_read.proofs.EscapeSpans.{third_fails, fourth_fails, unit_reads}
use Rattle.json_read.proofs.strings.unit_of.Goals as goal

pub returns-in_err-third-clause-read : goal.returns-in_err-third-clause-read
returns-in_err-third-clause-read c p point last n u content d k =
    let e = err_from_is_err_and c.from_residual.result c.from_residual.ensures.1 in
    rw (e.1, e.2) (third_fails c.args.bytes.now c.args.at c.args.front _ p point last u content d k n c.in_err-third.ensures)

pub returns-in_err-fourth-clause-read : goal.returns-in_err-fourth-clause-read
returns-in_err-fourth-clause-read c p point last n u content d k =
    let e = err_from_is_err_and c.from_residual-in_err-fourth.result c.from_residual-in_err-fourth.ensures.1 in
    rw (e.1, e.2) (fourth_fails c.args.bytes.now c.args.at c.args.front c.in_ok-third.third _ p point last u content d k n c.in_ok-third.ensures c.in_err-fourth.ensures)

pub returns-clause-read : goal.returns-clause-read
returns-clause-read c p point last n u content d k =
    unit_reads c.args.bytes.now c.args.at c.args.front c.in_ok-third.third c.in_ok-fourth.fourth p point last u content d k n c.in_ok-third.ensures c.in_ok-fourth.ensures

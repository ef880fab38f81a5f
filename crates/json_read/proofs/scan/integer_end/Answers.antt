use Rattle.std.proofs.Common.{sym, ◌∙◌, arith}
use Rattle.json_read.proofs.Slices.{told}
use Rattle.json_read.proofs.NumberSpans.{integer_found, zero_found, counts_integer}
use Rattle.json_read.specs.Machinery.Automaton.{in_integer}
use Rattle.json_read.proofs.scan.integer_end.Goals as goal

pub returns-then-first-eq48-clause-read : goal.returns-then-first-eq48-clause-read
returns-then-first-eq48-clause-read c =
    let is = c.if-first-eq48.true in
    zero_found c.args.bytes.now c.args.at (c.byte_at-first.ensures.within (omega arith)) (sym c.byte_at-first.ensures.value ∙ is)

pub returns-clause-read : goal.returns-clause-read
returns-clause-read c =
    let other = c.if-first-eq48.false in
    let digit = told c.is_digit.result _ c.is_digit.ensures c.if-not-is_digit.false in
    let value = c.byte_at-first.ensures.value in
    integer_found c.args.bytes.now c.args.at c.digits_end.result.1 c.digits_end.result.0 (c.byte_at-first.ensures.within (omega arith))
    (rw (← value) digit.0) (rw (← value) digit.1) (λ e. other (value ∙ e))
    (c.digits_end.ensures.reaches in_integer counts_integer) c.digits_end.ensures.all

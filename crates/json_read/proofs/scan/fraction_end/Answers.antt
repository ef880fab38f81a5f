use Rattle.std.proofs.Common.{◌+◌, ◌-◌, sym, refl, ◌∙◌, arith}
use Rattle.json_read.proofs.Slices.{told, denied}
use Rattle.json_read.specs.Machinery.Automaton.{in_fraction, behind_point}
use Rattle.json_read.proofs.NumberSpans.{point_reached, fraction_found, counts_fraction, fails_after, fails_here, digit_none}
use Rattle.json_read.proofs.scan.fraction_end.Goals as goal

pub returns-then-not-is_digit-clause-read : goal.returns-then-not-is_digit-clause-read
returns-then-not-is_digit-clause-read c from e =
    let value = c.byte_at.ensures.value in
    let mark = c.if-byte_at-ne46.false in
    let some = c.if-left-eq0.false in
    let no_digit = denied c.is_digit.result _ c.is_digit.ensures c.if-not-is_digit.true in
    let next = c.byte_at-2.ensures.value in
    fails_after c.args.bytes.now from (behind_point (c.args.left - 1)) c.args.at (c.args.at + 1) _
    (point_reached c.args.bytes.now from c.args.at c.args.left (c.byte_at.ensures.within (omega arith)) e (omega arith) (sym value ∙ mark))
    (fails_here c.args.bytes.now (behind_point (c.args.left - 1)) (c.args.at + 1) _ c.fault_at.ensures
    (digit_none _ _ _ (λ p q. no_digit (rw next p, rw next q))) refl)

pub returns-clause-read : goal.returns-clause-read
returns-clause-read c from e =
    let value = c.byte_at.ensures.value in
    let mark = c.if-byte_at-ne46.false in
    let some = c.if-left-eq0.false in
    let digit = told c.is_digit.result _ c.is_digit.ensures c.if-not-is_digit.false in
    let next = c.byte_at-2.ensures.value in
    fraction_found c.args.bytes.now from c.args.at (c.args.left - 1) c.digits_end.result.1 c.digits_end.result.0
    (point_reached c.args.bytes.now from c.args.at c.args.left (c.byte_at.ensures.within (omega arith)) e (omega arith) (sym value ∙ mark))
    (c.byte_at-2.ensures.within (omega (arith, digit.0))) (rw (← next) digit.0) (rw (← next) digit.1)
    (c.digits_end.ensures.reaches in_fraction counts_fraction) c.digits_end.ensures.all

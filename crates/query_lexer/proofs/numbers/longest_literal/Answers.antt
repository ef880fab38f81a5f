use Rattle.std.proofs.Common.{◌≡◌, ◌+◌, ◌-◌, ℕ, take, subst, arith}
use Rattle.query_lexer.specs.Machinery.Spans.{NoneLonger}
use Rattle.query_lexer.proofs.NumberSpans.{refused, one_less}
use Rattle.query_lexer.proofs.numbers.longest_literal.Goals as goal

pub lengths-preserved : goal.lengths-preserved
lengths-preserved c =
    let test = c.lengths-test.true in
    let step : c.lengths.end ≡ (c.lengths.end - 1) + 1 = omega (arith, test) in
    one_less c.args.bytes.now c.lengths.end (c.lengths.end - 1) step c.lengths.invariant
    (λ d is. refused (take c.lengths.end c.args.bytes.now) c.in_default.field-0 d c.in_default.ensures.exact is)

pub returns : goal.returns
returns c =
    let test = c.lengths-test.false in
    let none : c.lengths.end ≡ 0 = omega (arith, test) in
    subst (λ (n : ℕ). NoneLonger c.args.bytes.now n) none c.lengths.invariant.none

use Rattle.std.proofs.Common.{◌≡◌, ◌<◌, ◌≤◌, ◌∙◌, ap, length, [], arith, rules, sym, pos, to_z, w32}
use Rattle.std.proofs.lemmas.Bool.Decides.{nat_tests}
use Rattle.std.proofs.lemmas.Int.{ints}
use Rattle.json_decimal.specs.Literal.{IsPower, value_after}
use Rattle.json_decimal.specs.Machinery.Digits.{digits_at_front, after}
use Rattle.json_decimal.proofs.Powers.{below_thousand}
use Rattle.json_decimal.proofs.Runs.{run-AreDigits_whole, after-AreDigits_whole, power_from_run, length-run, run_whole, nil_from_test}
use Rattle.json_decimal.proofs.digits.power_of.Goals as goal

pub returns-in_default : goal.returns-in_default
returns-in_default c = λ (p : IsPower c.args.digits.now).
    let few = p.few in omega (arith, ap length (run-AreDigits_whole c.args.digits.now p.digits), c.in_default.ensures.cases)

pub returns-then-count-eq0 : goal.returns-then-count-eq0
returns-then-count-eq0 c = λ (p : IsPower c.args.digits.now).
    let some = p.some in omega (arith, ap length (run-AreDigits_whole c.args.digits.now p.digits), c.in-Some.ensures.cases.1)

pub returns-then-not-is_empty : goal.returns-then-not-is_empty
returns-then-not-is_empty c = λ (p : IsPower c.args.digits.now).
    let none : length c.in-Some.rest.now ≡ 0 = ap length (c.in-Some.ensures.cases.2 ∙ after-AreDigits_whole c.args.digits.now p.digits) in grind (arith, nat_tests)

pub overflow_cast-result : goal.overflow_cast-result
overflow_cast-result c =
    let small : c.in-Some.field-0-0.value < 1000 = below_thousand _ c.in-Some.field-0-0.count c.in-Some.ensures.bound.1 (omega (arith, length-run c.args.digits.now, c.in-Some.ensures.cases.1)) in search rules

pub returns : goal.returns
returns c =
    let small : c.in-Some.field-0-0.value < 1000 = below_thousand _ c.in-Some.field-0-0.count c.in-Some.ensures.bound.1 (omega (arith, length-run c.args.digits.now, c.in-Some.ensures.cases.1)) in
    let ends : after c.args.digits.now ≡ [] = sym c.in-Some.ensures.cases.2 ∙ nil_from_test c.in-Some.rest.now (sym c.is_empty.ensures ∙ c.if-not-is_empty.false) in
    let exact : to_z w32 c.in-Some.field-0-0.value ≡ pos c.in-Some.field-0-0.value = omega (arith, ints) in
    let some : 1 ≤ length (digits_at_front c.args.digits.now) = omega (arith, c.in-Some.ensures.cases.1, c.if-count-eq0.false) in
    (power_from_run c.args.digits.now (omega arith) ends some, exact ∙ ap pos (c.in-Some.ensures.cases.0 ∙ ap (value_after 0) (run_whole c.args.digits.now ends)), omega (arith, ints))

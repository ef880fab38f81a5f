use Rattle.std.proofs.Common.{◌≡◌, ◌≤◌, ◌^◌, ◌-ℤ◌, ◌-◌, pos, to_z, of_z, w32, length, arith}
use Rattle.std.proofs.lemmas.Int.{ints}
use Rattle.json_decimal.specs.Machinery.Digits.{fraction_at}
use Rattle.json_decimal.proofs.Powers.{ten_grows}
use Rattle.json_decimal.proofs.Parts.{no_tail, tail-exponent, tail_found}
use Rattle.json_decimal.proofs.reading.tail_of.Goals as goal

pub returns-in_default-clause-cases : goal.returns-in_default-clause-cases
returns-in_default-clause-cases c = λ value power t. no_tail c.args.bytes.now c.args.integer.count c.args.integer.value value power c.in_default.ensures.cases t

pub returns-in_default-exponent_of-clause-cases : goal.returns-in_default-exponent_of-clause-cases
returns-in_default-exponent_of-clause-cases c = λ value power t.
    c.in_default-exponent_of.ensures.cases _ (tail-exponent c.args.bytes.now c.in-Some.rest.now c.args.integer.count c.args.integer.value value power c.in-Some.ensures.cases.2 t)

pub returns-clause-cases : goal.returns-clause-cases
returns-clause-cases c =
    let found = c.in-Some.ensures.cases in
    let power = c.in-Some-exponent_of.power in
    let number = c.in-Some.field-0-0.count in
    let few = c.in-Some.ensures.bound.0 in
    let low = c.in-Some-exponent_of.ensures.bound.0 in
    let high = c.in-Some-exponent_of.ensures.bound.1 in
    let count = found.1 in
    let scale : to_z w32 (of_z w32 (to_z w32 (of_z w32 power) -ℤ to_z w32 (number - c.args.integer.count))) ≡ power -ℤ pos (length (fraction_at c.args.bytes.now)) = omega (arith, ints) in
    tail_found c.args.bytes.now c.in-Some.rest.now c.args.integer.count c.args.integer.value _ power _ number found.2 found.4 found.3 found.1 c.in-Some.ensures.bound.0 found.0 c.in-Some-exponent_of.ensures.cases scale

pub returns-clause-bound : goal.returns-clause-bound
returns-clause-bound c =
    let most : 10 ^ c.in-Some.field-0-0.count ≤ 10 ^ 38 = ten_grows _ 38 c.in-Some.ensures.bound.0 in
    let below = c.in-Some.ensures.bound.1 in
    let few = c.in-Some.ensures.bound.0 in
    let low = c.in-Some-exponent_of.ensures.bound.0 in
    let high = c.in-Some-exponent_of.ensures.bound.1 in
    (omega arith, omega (arith, ints), omega (arith, ints))

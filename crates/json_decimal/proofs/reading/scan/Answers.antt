use Rattle.std.proofs.Common.{◌≡◌, to_z, of_z, w32, arith}
use Rattle.std.proofs.lemmas.Int.{ints}
use Rattle.json_decimal.proofs.Parts.{integer_of_literal, tail_of_literal, literal_found}
use Rattle.json_decimal.proofs.reading.scan.Goals as goal

pub returns-in_default-clause-cases : goal.returns-in_default-clause-cases
returns-in_default-clause-cases c = integer_of_literal c.args.literal.now _ c.sign_of-negative.ensures.rest c.in_default.ensures.cases

pub returns-in_default-tail_of-clause-cases : goal.returns-in_default-tail_of-clause-cases
returns-in_default-tail_of-clause-cases c =
    let found = c.in-Some.ensures.cases in
    tail_of_literal c.args.literal.now _ _ _ _ c.sign_of-negative.ensures.rest found.3 found.2 found.1 c.in_default-tail_of.ensures.cases

pub returns-clause-cases : goal.returns-clause-cases
returns-clause-cases c =
    let found = c.in-Some.ensures.cases in
    let low = c.in-Some-tail_of.ensures.bound.1 in
    let high = c.in-Some-tail_of.ensures.bound.2 in
    let exact : to_z w32 (of_z w32 c.in-Some-tail_of.scale) ≡ c.in-Some-tail_of.scale = omega (arith, ints) in
    rw exact (literal_found c.args.literal.now _ _ _ _ _ _ _ c.sign_of-negative.ensures.negative c.sign_of-negative.ensures.rest found.3 found.2 found.1 found.0 c.in-Some-tail_of.ensures.cases)

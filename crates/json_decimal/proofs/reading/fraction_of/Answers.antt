use Rattle.json_decimal.proofs.Parts.{fraction_found}
use Rattle.json_decimal.proofs.reading.fraction_of.Goals as goal

pub returns-clause-cases : goal.returns-clause-cases
returns-clause-cases c =
    fraction_found c.args.bytes.now c.in-Some-eq46-default.behind.now _ _ _ _ _ _ c.in-Some-eq46-default.ensures c.in-Some-eq46-default.field-0-0-test c.in-Some.ensures.cases.0 c.in-Some.ensures.cases.1 c.in-Some.ensures.cases.2 c.if-count-integer.false

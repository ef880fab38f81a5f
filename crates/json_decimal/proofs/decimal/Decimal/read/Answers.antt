use Rattle.std.proofs.Common.{subst}
use Rattle.json_decimal.specs.Number.{Number, IsOutOfRange}
use Rattle.json_decimal.proofs.Unique.{one_number_of, literal_of_scan}
use Rattle.json_decimal.proofs.decimal.Decimal.read.Goals as goal

pub returns-in-Some-normal_form-clause-exact : goal.returns-in-Some-normal_form-clause-exact
returns-in-Some-normal_form-clause-exact c = λ n x. one_number_of c.args.literal.now _ n (literal_of_scan c.args.literal.now _ _ _ _ c.in-Some.ensures.cases c.in-Some-normal_form.ensures) x

pub returns-in-None-clause-exact : goal.returns-in-None-clause-exact
returns-in-None-clause-exact c = λ n x.
    let found = c.in-None.ensures in
    let P : Number → Type 0 = λ t. IsOutOfRange t in
    subst P (one_number_of c.args.literal.now found.0 n (literal_of_scan c.args.literal.now _ _ _ _ c.in-Some.ensures.cases found.1) x) found.2

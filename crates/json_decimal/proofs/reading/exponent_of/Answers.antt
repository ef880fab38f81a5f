use Rattle.json_decimal.proofs.Parts.{exponent_by_power}
use Rattle.std.proofs.Common.{inl, inr, ◌⊎◌}
use Rattle.json_decimal.proofs.reading.exponent_of.Goals as goal

⊎_swap : {A B : Type 0} → A ⊎ B → B ⊎ A
⊎_swap (inl a) = inr a
⊎_swap (inr b) = inl b

pub returns-in-Some-eq101-default-clause-cases : goal.returns-in-Some-eq101-default-clause-cases
returns-in-Some-eq101-default-clause-cases c =
    exponent_by_power c.args.bytes.now c.in-Some-eq101-default.rest.now c.in-Some-eq101-default.field-0-0 c.signed_power_of.result c.in-Some-eq101-default.ensures (⊎_swap c.in-Some-eq101-default.field-0-0-test) c.signed_power_of.ensures.cases

use Rattle.std.proofs.Common.{◌≡◌, to_z, of_z, w32, w64, FitsSigned, arith, rules}
use Rattle.std.proofs.lemmas.Int.{ints}
use Rattle.json_decimal.specs.Decimals.{number_of}
use Rattle.json_decimal.proofs.Wholes.{narrowed}
use Rattle.json_decimal.proofs.decimal.Decimal.as_i32.Goals as goal

pub returns : goal.returns
returns c =
    let fits : FitsSigned w64 c.in-Some.whole = search rules in
    let exact : to_z w64 (of_z w64 c.in-Some.whole) ≡ c.in-Some.whole = omega (arith, ints) in
    narrowed (number_of c.args.self.now) w32 c.in-Some.whole _ c.try_from.result c.ok.result exact c.in-Some.ensures c.try_from.ensures c.ok.ensures.value

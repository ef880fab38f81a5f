use Rattle.std.proofs.Common.{◌≡◌, ◌≤◌, ◌^◌, ℤ, pos, negsuc, neg_ℤ, ◌-ℤ◌, sym, refl, true, false, subst, to_z, of_z, w64, FitsSigned, unsigned_abs, arith}
use Rattle.std.specs.Int.{w128}
use Rattle.std.proofs.lemmas.Int.{ints}
use Rattle.json_decimal.specs.Comparing.{IsWhole}
use Rattle.json_decimal.specs.Decimals.{number_of}
use Rattle.json_decimal.proofs.Wholes.{size_from_whole, whole_from_size, narrowed}
use Rattle.json_decimal.proofs.decimal.Decimal.as_i64.Goals as goal

size_fits : (z : ℤ) → FitsSigned w64 z → unsigned_abs z ≤ 2 ^ 63
size_fits (pos n) fits = let small = fits.sfits in omega arith
size_fits (negsuc n) fits = let small = fits.sfits in omega arith

pub returns-in_default : goal.returns-in_default
returns-in_default c = λ z fits whole. c.in_default.ensures (unsigned_abs z) (size_fits z fits) (size_from_whole (number_of c.args.self.now) z whole)

pub returns-then-self : goal.returns-then-self
returns-then-self c =
    let small : c.in-Some.size ≤ 2 ^ 63 = c.in-Some.ensures.0 in
    let exact : to_z w64 (of_z w64 (to_z w128 (of_z w128 (pos 0 -ℤ to_z w128 c.in-Some.size)))) ≡ neg_ℤ (pos c.in-Some.size) = omega (arith, ints) in
    let P : ℤ → Type 0 = λ z. IsWhole (number_of c.args.self.now) z in
    subst P (sym exact) (whole_from_size (number_of c.args.self.now) c.in-Some.size true c.if-self.true c.in-Some.ensures.1)

pub returns-else-self : goal.returns-else-self
returns-else-self c =
    narrowed (number_of c.args.self.now) w64 (pos c.in-Some.size) (pos c.in-Some.size) c.try_from.result c.ok.result refl
    (whole_from_size (number_of c.args.self.now) c.in-Some.size false c.if-self.false c.in-Some.ensures.1) c.try_from.ensures c.ok.ensures.value

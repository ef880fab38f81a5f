use Rattle.std.proofs.Common.{◌≡◌, ◌<◌, ◌^◌, ◌<ℤ◌, ◌≤ℤ◌, ℤ, pos, neg_ℤ, true, false, to_z, of_z, w32, FitsSigned, arith}
use lib.Signed.{lt_z}
use Rattle.std.proofs.lemmas.Int.{ints}
use Rattle.json_decimal.specs.Halves.{joined_halves}
use Rattle.json_decimal.specs.Decimals.{number_of}
use Rattle.json_decimal.proofs.ReadsBack.{is_decimal}
use Rattle.json_decimal.proofs.Wholes.{no_size_below, no_size_far, no_size_above}
use Rattle.json_decimal.proofs.order.whole_size.Goals as goal
use Rattle.json_decimal.proofs.order.whole_size.Goals.{then-exponent-lt0-via-then-exponent-lt0, then-exponent-lt0-via-else-exponent-lt0+then-exponent-gt18}

-- what a test of the exponent says of it
below : (e t : ℤ) → FitsSigned w32 e → lt_z (to_z w32 (of_z w32 e)) t ≡ true → e <ℤ t
below e t fits h = let exact : to_z w32 (of_z w32 e) ≡ e = omega (arith, ints) in grind (arith, ints)

above : (e t : ℤ) → FitsSigned w32 e → lt_z t (to_z w32 (of_z w32 e)) ≡ true → t <ℤ e
above e t fits h = let exact : to_z w32 (of_z w32 e) ≡ e = omega (arith, ints) in grind (arith, ints)

not_below : (e t : ℤ) → FitsSigned w32 e → lt_z (to_z w32 (of_z w32 e)) t ≡ false → t ≤ℤ e
not_below e t fits h = let exact : to_z w32 (of_z w32 e) ≡ e = omega (arith, ints) in grind (arith, ints)

decimal_fits : (e : ℤ) → neg_ℤ (pos 900) ≤ℤ e → e ≤ℤ pos 900 → FitsSigned w32 e
decimal_fits e low high = omega (arith, ints)

pub returns-then-exponent-lt0 : goal.returns-then-exponent-lt0
returns-then-exponent-lt0 c = λ n few h.
    let d = c.args.decimal.now in
    let fits = decimal_fits d.exponent d.least d.most in
    elim c.then-exponent-lt0.branch [
      | then-exponent-lt0-via-then-exponent-lt0 w ↦ no_size_below (number_of c.args.decimal.now) n (is_decimal c.args.decimal.now) (below d.exponent (pos 0) fits w.if-exponent-lt0.true) h
      | then-exponent-lt0-via-else-exponent-lt0+then-exponent-gt18 w ↦ no_size_far (number_of c.args.decimal.now) n (is_decimal c.args.decimal.now) (above d.exponent (pos 18) fits w.if-exponent-gt18.true) few h
    ]

pub returns-then-coefficient-gt-LEAST_I64_SIZE : goal.returns-then-coefficient-gt-LEAST_I64_SIZE
returns-then-coefficient-gt-LEAST_I64_SIZE c = λ n few h.
    let d = c.args.decimal.now in
    let large : 2 ^ 63 < joined_halves d.high d.low = rw (← c.coefficient-coefficient.ensures) c.if-coefficient-gt-LEAST_I64_SIZE.true in
    no_size_above (number_of c.args.decimal.now) n (not_below d.exponent (pos 0) (decimal_fits d.exponent d.least d.most) c.if-exponent-lt0.false) large few h

use Rattle.std.proofs.Common.{◌≡◌, ◌+◌, ◌<◌, get_or, ◌&&◌, sym, ◌∙◌, arith}
use Rattle.std.specs.Char.{is_ascii_digit, digit_value}
use Rattle.std.proofs.lemmas.Int.Digits.{digits_value_more}
use Rattle.std.proofs.lemmas.List.Folds.{list_all_more}
use Rattle.http_ends.proofs.FieldLemmas.{one_more_digit, few_digits, digit_below_ten}
use Rattle.http_ends.proofs.fields.number_of.Goals as goal

pub overflow_mul-number : goal.overflow_mul-number
overflow_mul-number c =
    omega (arith, few_digits c.reading.byte-index (omega arith))

-- the digit that was read
digit : (c : goal.After-from) → (digit_value (get_or c.args.text.now c.reading.byte-index 0) < 10) × (c.from.result ≡ digit_value (get_or c.args.text.now c.reading.byte-index 0))
digit c =
    let facts = digit_below_ten (get_or c.args.text.now c.reading.byte-index 0) (sym c.if-not-is_ascii_digit.ensures.value) in
    (facts.0, omega (arith, facts.1, c.from.ensures))

pub overflow_add-number : goal.overflow_add-number
overflow_add-number c =
    let d = digit c in
    omega (arith, d.0, d.1, few_digits (c.reading.byte-index + 1) (omega arith), one_more_digit c.reading.byte-index c.reading.number (digit_value (get_or c.args.text.now c.reading.byte-index 0)) c.reading.invariant.small d.0)

pub reading-preserved : goal.reading-preserved
reading-preserved c =
    let d = digit c in
    record {
      value = omega (arith, digits_value_more 10 c.args.text.now c.reading.byte-index c.reading-test.true, d.1, c.reading.invariant.value);
      digits = list_all_more is_ascii_digit c.args.text.now c.reading.byte-index 0 c.reading-test.true ∙ (λ k. c.reading.invariant.digits k && sym c.if-not-is_ascii_digit.ensures.value k);
      small = omega (arith, d.1, one_more_digit c.reading.byte-index c.reading.number (digit_value (get_or c.args.text.now c.reading.byte-index 0)) c.reading.invariant.small d.0);
    }

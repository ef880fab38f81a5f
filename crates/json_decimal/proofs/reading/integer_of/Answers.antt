use Rattle.std.proofs.Common.{◌≡◌, ◌≤◌, slice_index, length, zero-add, ◌∙◌}
use Rattle.json_decimal.specs.Machinery.Digits.{digits_at_front}
use Rattle.json_decimal.proofs.Parts.{integer_found}
use Rattle.json_decimal.proofs.reading.integer_of.Goals as goal
use Rattle.json_decimal.proofs.reading.integer_of.Goals.{else-bytes-eq48-via-then-bytes-eq48+else-count-gt1, else-bytes-eq48-via-else-bytes-eq48}

pub returns-clause-cases : goal.returns-clause-cases
returns-clause-cases c =
    let leading : slice_index c.args.bytes.now 0 ≡ 48 → c.in-Some.field-0-0.count ≤ 1 = elim c.else-bytes-eq48.branch [
      | else-bytes-eq48-via-then-bytes-eq48+else-count-gt1 w ↦ λ e. w.if-count-gt1.false
      | else-bytes-eq48-via-else-bytes-eq48 w ↦ λ e. absurd (w.if-bytes-eq48.false e)
    ] in
    let count : c.in-Some.field-0-0.count ≡ length (digits_at_front c.args.bytes.now) = c.in-Some.ensures.cases.1 ∙ zero-add _ in
    (integer_found c.args.bytes.now _ count c.if-count-eq0.false leading, c.in-Some.ensures.cases.0, count, c.in-Some.ensures.cases.2)

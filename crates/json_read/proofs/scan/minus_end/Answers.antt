use Rattle.std.proofs.Common.{◌≤◌, inl, inr, sym, ◌∙◌, arith}
use Rattle.json_read.proofs.NumberSpans.{minus_found, digit_found}
use Rattle.json_read.proofs.scan.minus_end.Goals as goal

pub returns-then-byte_at-eq45 : goal.returns-then-byte_at-eq45
returns-then-byte_at-eq45 c =
    let is = c.if-byte_at-eq45.true in
    record { read = minus_found c.args.bytes.now c.args.at (c.byte_at.ensures.within (omega arith)) (sym c.byte_at.ensures.value ∙ is) }

pub returns-else-byte_at-eq45 : goal.returns-else-byte_at-eq45
returns-else-byte_at-eq45 c =
    let value = c.byte_at.ensures.value in
    elim c.requires [
      | inl e ↦ absurd (c.if-byte_at-eq45.false (value ∙ e))
      | inr h ↦
          let some : 48 ≤ c.byte_at.result = rw value h.0 in
          record { read = digit_found c.args.bytes.now c.args.at (c.byte_at.ensures.within (omega arith)) h.0 h.1 }
    ]

use Rattle.std.proofs.Common.{◌≡◌, ◌<◌, ◌⊎◌, ◌+◌, ℕ, inl, inr, sym, ◌∙◌, arith}
use Rattle.json_read.specs.Machinery.Automaton.{behind_mark, in_power}
use Rattle.json_read.proofs.Slices.{told, denied}
use Rattle.json_read.proofs.NumberSpans.{reaches_more, mark_reached, power_found, counts_power, fails_after, fails_here, digit_none}
use Rattle.json_read.proofs.scan.exponent_end.Goals as goal

either_mark : (b v : ℕ) → b ≡ v → ((b ≡ 101 → ⊥) × (b ≡ 69)) ⊎ (b ≡ 101) → (v ≡ 101) ⊎ (v ≡ 69)
either_mark b v e (inl h) = inr (sym e ∙ h.1)
either_mark b v e (inr h) = inl (sym e ∙ h)

mark_some : (b : ℕ) → ((b ≡ 101 → ⊥) × (b ≡ 69)) ⊎ (b ≡ 101) → 0 < b
mark_some b (inl h) = let e = h.1 in omega arith
mark_some b (inr h) = omega arith

pub returns-then-not-is_digit-clause-read : goal.returns-then-not-is_digit-clause-read
returns-then-not-is_digit-clause-read c from e =
    let mark = c.else-mark-ne101.either in
    let within = c.byte_at-mark.ensures.within (mark_some _ mark) in
    let first = mark_reached c.args.bytes.now from c.args.at within e (either_mark _ _ c.byte_at-mark.ensures.value mark) in
    let signed = c.sign_end-start.ensures.read in
    let no_digit = denied c.is_digit.result _ c.is_digit.ensures c.if-not-is_digit.true in
    let next = c.byte_at.ensures.value in
    fails_after c.args.bytes.now from signed.0 c.args.at c.sign_end-start.result _
    (reaches_more c.args.bytes.now from behind_mark signed.0 c.args.at (c.args.at + 1) c.sign_end-start.result first signed.1)
    (fails_here c.args.bytes.now signed.0 c.sign_end-start.result _ c.fault_at.ensures
    (signed.3 ∙ digit_none _ _ _ (λ p q. no_digit (rw next p, rw next q))) signed.2)

pub returns-clause-read : goal.returns-clause-read
returns-clause-read c from e =
    let mark = c.else-mark-ne101.either in
    let within = c.byte_at-mark.ensures.within (mark_some _ mark) in
    let first = mark_reached c.args.bytes.now from c.args.at within e (either_mark _ _ c.byte_at-mark.ensures.value mark) in
    let signed = c.sign_end-start.ensures.read in
    let digit = told c.is_digit.result _ c.is_digit.ensures c.if-not-is_digit.false in
    let next = c.byte_at.ensures.value in
    power_found c.args.bytes.now from signed.0 c.args.at c.sign_end-start.result c.digits_end.result.1 c.digits_end.result.0
    first signed.1 signed.3 (c.byte_at.ensures.within (omega (arith, digit.0))) (rw (← next) digit.0) (rw (← next) digit.1)
    (c.digits_end.ensures.reaches in_power counts_power) c.digits_end.ensures.all

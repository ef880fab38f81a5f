use Rattle.std.proofs.Common.{◌≡◌, ◌<◌, ◌⊎◌, length, get_or, inl, inr, sym, refl, ◌∙◌, arith}
use Rattle.json_read.specs.Machinery.Automaton.{behind_mark, behind_sign}
use Rattle.json_read.proofs.NumberSpans.{sign_reached, no_sign_found, reaches_here}
use Rattle.json_read.proofs.scan.sign_end.Goals as goal

pub returns-then-sign-eq45-clause-read : goal.returns-then-sign-eq45-clause-read
returns-then-sign-eq45-clause-read c =
    let is = sym c.byte_at-sign.ensures.value in
    let sign : (get_or c.args.bytes.now c.args.at 0 ≡ 43) ⊎ (get_or c.args.bytes.now c.args.at 0 ≡ 45) =
    elim c.if-sign-eq45.either [ inl e ↦ inl (is ∙ e) | inr e ↦ inr (is ∙ e.1) ] in
    let within : c.args.at < length c.args.bytes.now = c.byte_at-sign.ensures.within (elim c.if-sign-eq45.either [ inl e ↦ omega arith | inr e ↦ let f = e.1 in omega arith ]) in
    (behind_sign, sign_reached c.args.bytes.now c.args.at within sign, refl, refl)

pub returns-else-sign-eq45-clause-read : goal.returns-else-sign-eq45-clause-read
returns-else-sign-eq45-clause-read c =
    let is = c.byte_at-sign.ensures.value in (
      behind_mark,
      reaches_here c.args.bytes.now behind_mark c.args.at c.requires,
      refl,
      no_sign_found (get_or c.args.bytes.now c.args.at 0) (λ e. c.if-sign-eq45.false.0 (is ∙ e)) (λ e. c.if-sign-eq45.false.1 (is ∙ e)),
    )

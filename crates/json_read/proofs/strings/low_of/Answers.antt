use Rattle.std.proofs.Common.{◌≡◌, ◌<◌, ◌+◌, ◌++◌, ℕ, length, get_or, sym, ap, ◌∙◌, arith}
use Rattle.json_tree.specs.Grammar.{paired}
use Rattle.json_read.specs.Machinery.Automaton.{in_text, in_character, low_letter, low_first, reading}
use Rattle.json_read.proofs.Slices.{past_byte}
use Rattle.json_read.proofs.Readings.{outcome_from}
use Rattle.json_read.proofs.EscapeSpans.{char_dead, escape_on, letter_on, leads_map}
use Rattle.json_read.proofs.strings.low_of.Goals as goal

pub returns-then-byte_at-ne117-clause-read : goal.returns-then-byte_at-ne117-clause-read
returns-then-byte_at-ne117-clause-read c high u content d k =
    let first = c.if-byte_at-ne92.false in
    let within : c.args.at < length c.args.bytes.now = c.byte_at.ensures.within (omega arith) in
    outcome_from c.args.bytes.now c.fault_at-then-byte_at-ne117.result _ _
    (escape_on c.args.bytes.now c.args.at high u content d k within (sym c.byte_at.ensures.value ∙ first))
    (char_dead c.args.bytes.now (c.args.at + 1) c.fault_at-then-byte_at-ne117.result (low_letter high) u content d k c.fault_at-then-byte_at-ne117.ensures
    (λ h. past_byte (get_or c.args.bytes.now (c.args.at + 1) 0) 117 _ _ (λ e. c.if-byte_at-ne117.true (c.byte_at-2.ensures.value ∙ e))))

pub returns-clause-read : goal.returns-clause-read
returns-clause-read c high u content d k =
    let first = c.if-byte_at-ne92.false in
    let second = c.if-byte_at-ne117.false in
    let within : c.args.at < length c.args.bytes.now = c.byte_at.ensures.within (omega arith) in
    let within-2 : c.args.at + 1 < length c.args.bytes.now = c.byte_at-2.ensures.within (omega arith) in
    let place : c.args.at + 1 + 1 ≡ c.args.at + 2 = omega arith in
    let later : c.args.at + 2 + 4 ≡ c.args.at + 6 = omega arith in
    let front = escape_on c.args.bytes.now c.args.at high u content d k within (sym c.byte_at.ensures.value ∙ first)
    ∙ letter_on c.args.bytes.now (c.args.at + 1) high u content d k within-2 (sym c.byte_at-2.ensures.value ∙ second)
    ∙ ap (λ (m : ℕ). reading c.args.bytes.now (in_character (low_first high) u content d k) m) place in
    leads_map c.args.bytes.now _ _ c.low_digits_of.result _ _ front
    (λ low h. front ∙ h ∙ ap (λ (m : ℕ). reading c.args.bytes.now (in_text u (content ++ paired high low) d k) m) later)
    (c.low_digits_of.ensures.read high u content d k)

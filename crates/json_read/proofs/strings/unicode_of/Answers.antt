use Rattle.std.proofs.Common.{◌≡◌, ◌+◌, ◌*◌, ◌++◌, ℕ, refl, ap, ◌∙◌, arith, encode_utf8}
use Rattle.std.proofs.lemmas.Result.{err_from_is_err_and}
use Rattle.json_read.specs.Machinery.Automaton.{in_text, in_character, first_digit, behind_d, first_digit_move, digits, on, done, reading}
use Rattle.json_read.proofs.Readings.{outcome_from}
use Rattle.json_read.proofs.EscapeSpans.{hex_fails, hex_on, at_first_digit, at_digits, first_d, first_other, leads_map, reads_digits}
use Rattle.json_read.proofs.strings.unicode_of.Goals as goal

pub returns-in_err-first-clause-read : goal.returns-in_err-first-clause-read
returns-in_err-first-clause-read c u content d k =
    let e = err_from_is_err_and c.from_residual.result c.from_residual.ensures.1 in
    rw (e.1, e.2) (hex_fails c.args.bytes.now c.args.at _ first_digit first_digit_move u content d k at_first_digit c.in_err-first.ensures)

pub returns-then-first-eq13-clause-read : goal.returns-then-first-eq13-clause-read
returns-then-first-eq13-clause-read c u content d k =
    let front = hex_on c.args.bytes.now c.args.at c.in_ok-first.first first_digit behind_d first_digit_move u content d k at_first_digit
    c.in_ok-first.ensures (first_d c.in_ok-first.first c.if-first-eq13.true) in
    leads_map c.args.bytes.now _ _ c.behind_d_of.result _ _ front (λ x h. front ∙ h) (c.behind_d_of.ensures.read u content d k)

pub returns-in_err-second-clause-read : goal.returns-in_err-second-clause-read
returns-in_err-second-clause-read c u content d k =
    let e = err_from_is_err_and c.from_residual-in_err-second.result c.from_residual-in_err-second.ensures.1 in
    rw (e.1, e.2) (outcome_from c.args.bytes.now _ _ _
    (hex_on c.args.bytes.now c.args.at c.in_ok-first.first first_digit (digits 2 c.in_ok-first.first) first_digit_move u content d k at_first_digit
    c.in_ok-first.ensures (first_other c.in_ok-first.first c.if-first-eq13.false))
    (hex_fails c.args.bytes.now (c.args.at + 1) _ (digits 2 c.in_ok-first.first) (λ x. on (digits 1 (c.in_ok-first.first * 16 + x))) u content d k
    (at_digits 1 c.in_ok-first.first) c.in_err-second.ensures))

pub returns-in_err-unit-clause-read : goal.returns-in_err-unit-clause-read
returns-in_err-unit-clause-read c u content d k =
    let e = err_from_is_err_and c.from_residual-in_err-unit.result c.from_residual-in_err-unit.ensures.1 in
    let place : c.args.at + 1 + 1 ≡ c.args.at + 2 = omega arith in
    rw (e.1, e.2) (outcome_from c.args.bytes.now _ _ _
    (hex_on c.args.bytes.now c.args.at c.in_ok-first.first first_digit (digits 2 c.in_ok-first.first) first_digit_move u content d k at_first_digit
    c.in_ok-first.ensures (first_other c.in_ok-first.first c.if-first-eq13.false)
    ∙ hex_on c.args.bytes.now (c.args.at + 1) c.in_ok-second.second (digits 2 c.in_ok-first.first) (digits 1 (c.in_ok-first.first * 16 + c.in_ok-second.second))
    (λ x. on (digits 1 (c.in_ok-first.first * 16 + x))) u content d k (at_digits 1 c.in_ok-first.first) c.in_ok-second.ensures refl
    ∙ ap (λ (m : ℕ). reading c.args.bytes.now (in_character (digits 1 (c.in_ok-first.first * 16 + c.in_ok-second.second)) u content d k) m) place)
    (c.in_err-unit.ensures.read (digits 1 (c.in_ok-first.first * 16 + c.in_ok-second.second)) (λ m. digits 0 m) (λ m. done (encode_utf8 m)) (reads_digits (c.in_ok-first.first * 16 + c.in_ok-second.second)) u content d k))

pub returns-clause-read : goal.returns-clause-read
returns-clause-read c u content d k =
    let place : c.args.at + 1 + 1 ≡ c.args.at + 2 = omega arith in
    let later : c.args.at + 2 + 2 ≡ c.args.at + 4 = omega arith in
    hex_on c.args.bytes.now c.args.at c.in_ok-first.first first_digit (digits 2 c.in_ok-first.first) first_digit_move u content d k at_first_digit
    c.in_ok-first.ensures (first_other c.in_ok-first.first c.if-first-eq13.false)
    ∙ hex_on c.args.bytes.now (c.args.at + 1) c.in_ok-second.second (digits 2 c.in_ok-first.first) (digits 1 (c.in_ok-first.first * 16 + c.in_ok-second.second))
    (λ x. on (digits 1 (c.in_ok-first.first * 16 + x))) u content d k (at_digits 1 c.in_ok-first.first) c.in_ok-second.ensures refl
    ∙ ap (λ (m : ℕ). reading c.args.bytes.now (in_character (digits 1 (c.in_ok-first.first * 16 + c.in_ok-second.second)) u content d k) m) place
    ∙ c.in_ok-unit.ensures.read (digits 1 (c.in_ok-first.first * 16 + c.in_ok-second.second)) (λ m. digits 0 m) (λ m. done (encode_utf8 m)) (reads_digits (c.in_ok-first.first * 16 + c.in_ok-second.second)) u content d k (in_text u (content ++ encode_utf8 c.in_ok-unit.unit) d k) refl
    ∙ ap (λ (m : ℕ). reading c.args.bytes.now (in_text u (content ++ encode_utf8 c.in_ok-unit.unit) d k) m) later

use Rattle.std.proofs.Common.{◌≡◌, ◌+◌, ◌*◌, ◌++◌, ℕ, inl, inr, refl, ap, ◌∙◌, arith, encode_utf8}
use Rattle.std.proofs.lemmas.Result.{err_from_is_err_and}
use Rattle.std.proofs.lemmas.Bool.Decides.{leb_tells}
use Rattle.json_tree.specs.Grammar.{paired}
use Rattle.json_read.specs.Machinery.Automaton.{in_text, in_character, behind_d, behind_d_move, digits, high_digits, low_escape, on, done, reading}
use Rattle.json_read.proofs.Readings.{outcome_from}
use Rattle.json_read.proofs.EscapeSpans.{hex_fails, hex_rejects, hex_on, at_behind_d, behind_d_low, behind_d_high, behind_d_other, reads_digits, reads_high}
use Rattle.json_read.proofs.strings.behind_d_of.Goals as goal

pub returns-in_err-second-clause-read : goal.returns-in_err-second-clause-read
returns-in_err-second-clause-read c u content d k =
    let e = err_from_is_err_and c.from_residual.result c.from_residual.ensures.1 in
    rw (e.1, e.2) (hex_fails c.args.bytes.now c.args.at _ behind_d behind_d_move u content d k at_behind_d c.in_err-second.ensures)

pub returns-then-second-gt11-clause-read : goal.returns-then-second-gt11-clause-read
returns-then-second-gt11-clause-read c u content d k =
    hex_rejects c.args.bytes.now c.args.at c.in_ok-second.second c.fault_at.result behind_d behind_d_move u content d k at_behind_d
    c.in_ok-second.ensures c.fault_at.ensures (behind_d_other c.in_ok-second.second c.if-second-gt11.true)

pub returns-in_err-unit-clause-read : goal.returns-in_err-unit-clause-read
returns-in_err-unit-clause-read c u content d k =
    let e = err_from_is_err_and c.from_residual-in_err-unit.result c.from_residual-in_err-unit.ensures.1 in
    let few = c.if-second-gt11.false in
    rw (e.1, e.2) (elim (leb_tells c.in_ok-second.second 7) [
      | inl p ↦ outcome_from c.args.bytes.now _ _ _ (hex_on c.args.bytes.now c.args.at c.in_ok-second.second behind_d (digits 1 (13 * 16 + c.in_ok-second.second)) behind_d_move u content d k at_behind_d
          c.in_ok-second.ensures (behind_d_low c.in_ok-second.second p.1))
          (c.in_err-unit.ensures.read (digits 1 (13 * 16 + c.in_ok-second.second)) (λ m. digits 0 m) (λ m. done (encode_utf8 m)) (reads_digits (13 * 16 + c.in_ok-second.second)) u content d k)
      | inr p ↦ outcome_from c.args.bytes.now _ _ _ (hex_on c.args.bytes.now c.args.at c.in_ok-second.second behind_d (high_digits 1 (13 * 16 + c.in_ok-second.second)) behind_d_move u content d k at_behind_d
          c.in_ok-second.ensures (behind_d_high c.in_ok-second.second p.1 few))
          (c.in_err-unit.ensures.read (high_digits 1 (13 * 16 + c.in_ok-second.second)) (λ m. high_digits 0 m) (λ m. on (low_escape m)) (reads_high (13 * 16 + c.in_ok-second.second)) u content d k)
    ])

pub returns-then-second-le7-clause-read : goal.returns-then-second-le7-clause-read
returns-then-second-le7-clause-read c u content d k =
    let place : c.args.at + 1 + 2 ≡ c.args.at + 3 = omega arith in
    hex_on c.args.bytes.now c.args.at c.in_ok-second.second behind_d (digits 1 (13 * 16 + c.in_ok-second.second)) behind_d_move u content d k at_behind_d
    c.in_ok-second.ensures (behind_d_low c.in_ok-second.second c.if-second-le7.true)
    ∙ c.in_ok-unit.ensures.read (digits 1 (13 * 16 + c.in_ok-second.second)) (λ m. digits 0 m) (λ m. done (encode_utf8 m)) (reads_digits (13 * 16 + c.in_ok-second.second)) u content d k (in_text u (content ++ encode_utf8 c.in_ok-unit.unit) d k) refl
    ∙ ap (λ (m : ℕ). reading c.args.bytes.now (in_text u (content ++ encode_utf8 c.in_ok-unit.unit) d k) m) place

pub returns-in_err-low-clause-read : goal.returns-in_err-low-clause-read
returns-in_err-low-clause-read c u content d k =
    let e = err_from_is_err_and c.from_residual-in_err-low.result c.from_residual-in_err-low.ensures.1 in
    let place : c.args.at + 1 + 2 ≡ c.args.at + 3 = omega arith in
    let few = c.if-second-gt11.false in
    rw (e.1, e.2) (outcome_from c.args.bytes.now _ _ _
    (hex_on c.args.bytes.now c.args.at c.in_ok-second.second behind_d (high_digits 1 (13 * 16 + c.in_ok-second.second)) behind_d_move u content d k at_behind_d
    c.in_ok-second.ensures (behind_d_high c.in_ok-second.second c.if-second-le7.false few)
    ∙ c.in_ok-unit.ensures.read (high_digits 1 (13 * 16 + c.in_ok-second.second)) (λ m. high_digits 0 m) (λ m. on (low_escape m)) (reads_high (13 * 16 + c.in_ok-second.second)) u content d k (in_character (low_escape c.in_ok-unit.unit) u content d k) refl
    ∙ ap (λ (m : ℕ). reading c.args.bytes.now (in_character (low_escape c.in_ok-unit.unit) u content d k) m) place)
    (c.in_err-low.ensures.read c.in_ok-unit.unit u content d k))

pub returns-clause-read : goal.returns-clause-read
returns-clause-read c u content d k =
    let place : c.args.at + 1 + 2 ≡ c.args.at + 3 = omega arith in
    let later : c.args.at + 3 + 6 ≡ c.args.at + 9 = omega arith in
    let few = c.if-second-gt11.false in
    hex_on c.args.bytes.now c.args.at c.in_ok-second.second behind_d (high_digits 1 (13 * 16 + c.in_ok-second.second)) behind_d_move u content d k at_behind_d
    c.in_ok-second.ensures (behind_d_high c.in_ok-second.second c.if-second-le7.false few)
    ∙ c.in_ok-unit.ensures.read (high_digits 1 (13 * 16 + c.in_ok-second.second)) (λ m. high_digits 0 m) (λ m. on (low_escape m)) (reads_high (13 * 16 + c.in_ok-second.second)) u content d k (in_character (low_escape c.in_ok-unit.unit) u content d k) refl
    ∙ ap (λ (m : ℕ). reading c.args.bytes.now (in_character (low_escape c.in_ok-unit.unit) u content d k) m) place
    ∙ c.in_ok-low.ensures.read c.in_ok-unit.unit u content d k
    ∙ ap (λ (m : ℕ). reading c.args.bytes.now (in_text u (content ++ paired c.in_ok-unit.unit c.in_ok-low.low) d k) m) later

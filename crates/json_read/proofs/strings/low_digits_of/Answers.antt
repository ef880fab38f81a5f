use Rattle.std.proofs.Common.{◌≡◌, ◌+◌, ◌*◌, ◌++◌, ℕ, refl, ap, ◌∙◌, arith}
use Rattle.std.proofs.lemmas.Result.{err_from_is_err_and}
use Rattle.json_tree.specs.Grammar.{paired}
use Rattle.json_read.specs.Machinery.Automaton.{in_text, low_first, low_second, low_digits, low_first_move, low_second_move, done, reading}
use Rattle.json_read.proofs.Readings.{outcome_from}
use Rattle.json_read.proofs.EscapeSpans.{hex_fails, hex_rejects, hex_on, at_low_first, at_low_second, low_first_d, low_first_other, low_second_other, low_on, leads_map, reads_low}
use Rattle.json_read.proofs.strings.low_digits_of.Goals as goal

pub returns-in_err-first-clause-read : goal.returns-in_err-first-clause-read
returns-in_err-first-clause-read c high u content d k =
    let e = err_from_is_err_and c.from_residual.result c.from_residual.ensures.1 in
    rw (e.1, e.2) (hex_fails c.args.bytes.now c.args.at _ (low_first high) (low_first_move high) u content d k (at_low_first high) c.in_err-first.ensures)

pub returns-then-first-ne13-clause-read : goal.returns-then-first-ne13-clause-read
returns-then-first-ne13-clause-read c high u content d k =
    hex_rejects c.args.bytes.now c.args.at c.in_ok-first.first c.fault_at.result (low_first high) (low_first_move high) u content d k (at_low_first high)
    c.in_ok-first.ensures c.fault_at.ensures (low_first_other high c.in_ok-first.first c.if-first-ne13.true)

pub returns-in_err-second-clause-read : goal.returns-in_err-second-clause-read
returns-in_err-second-clause-read c high u content d k =
    let e = err_from_is_err_and c.from_residual-in_err-second.result c.from_residual-in_err-second.ensures.1 in
    rw (e.1, e.2) (outcome_from c.args.bytes.now _ _ _
    (hex_on c.args.bytes.now c.args.at c.in_ok-first.first (low_first high) (low_second high) (low_first_move high) u content d k (at_low_first high)
    c.in_ok-first.ensures (low_first_d high c.in_ok-first.first c.if-first-ne13.false))
    (hex_fails c.args.bytes.now (c.args.at + 1) _ (low_second high) (low_second_move high) u content d k (at_low_second high) c.in_err-second.ensures))

pub returns-then-second-lt12-clause-read : goal.returns-then-second-lt12-clause-read
returns-then-second-lt12-clause-read c high u content d k =
    outcome_from c.args.bytes.now c.fault_at-then-second-lt12.result _ _
    (hex_on c.args.bytes.now c.args.at c.in_ok-first.first (low_first high) (low_second high) (low_first_move high) u content d k (at_low_first high)
    c.in_ok-first.ensures (low_first_d high c.in_ok-first.first c.if-first-ne13.false))
    (hex_rejects c.args.bytes.now (c.args.at + 1) c.in_ok-second.second c.fault_at-then-second-lt12.result (low_second high) (low_second_move high) u content d k (at_low_second high)
    c.in_ok-second.ensures c.fault_at-then-second-lt12.ensures (low_second_other high c.in_ok-second.second c.if-second-lt12.true))

pub returns-clause-read : goal.returns-clause-read
returns-clause-read c high u content d k =
    let place : c.args.at + 2 + 2 ≡ c.args.at + 4 = omega arith in
    leads_map c.args.bytes.now _ _ c.unit_of.result _ _
    (low_on c.args.bytes.now c.args.at c.in_ok-first.first c.in_ok-second.second high u content d k c.in_ok-first.ensures c.if-first-ne13.false c.in_ok-second.ensures c.if-second-lt12.false)
    (λ low h. low_on c.args.bytes.now c.args.at c.in_ok-first.first c.in_ok-second.second high u content d k c.in_ok-first.ensures c.if-first-ne13.false c.in_ok-second.ensures c.if-second-lt12.false
    ∙ h (in_text u (content ++ paired high low) d k) refl
    ∙ ap (λ (m : ℕ). reading c.args.bytes.now (in_text u (content ++ paired high low) d k) m) place)
    (c.unit_of.ensures.read (low_digits 1 high (13 * 16 + c.in_ok-second.second)) (λ m. low_digits 0 high m) (λ m. done (paired high m))
    (reads_low high (13 * 16 + c.in_ok-second.second)) u content d k)

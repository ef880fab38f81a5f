use Rattle.std.proofs.Common.{◌<◌, length, refl, sym, ◌∙◌, arith}
use Rattle.std.proofs.lemmas.Result.{err_from_is_err_and}
use Rattle.json_read.specs.Machinery.Automaton.{next_key, colon, as_key}
use Rattle.json_read.proofs.Readings.{outcome_from}
use Rattle.json_read.proofs.ValueSpans.{key_begins, colon_over, colon_fails}
use Rattle.json_read.proofs.reading.key_of.Goals as goal

pub returns-in_err-key-clause-read : goal.returns-in_err-key-clause-read
returns-in_err-key-clause-read c d k ms =
    let e = err_from_is_err_and c.from_residual.result c.from_residual.ensures.1 in
    let mark = c.if-byte_at-ne34.false in
    let within : c.spaces_end-start.result < length c.args.bytes.now = c.byte_at.ensures.within (omega arith) in
    rw (e.1, e.2) (outcome_from c.args.bytes.now _ _ _
    (c.spaces_end-start.ensures.same (next_key d k ms) refl refl refl refl
    ∙ key_begins c.args.bytes.now c.spaces_end-start.result d k ms within (sym c.byte_at.ensures.value ∙ mark))
    (c.in_err-key.ensures.read (as_key ms) d k))

pub returns-then-byte_at-ne58-clause-read : goal.returns-then-byte_at-ne58-clause-read
returns-then-byte_at-ne58-clause-read c d k ms =
    let mark = c.if-byte_at-ne34.false in
    let within : c.spaces_end-start.result < length c.args.bytes.now = c.byte_at.ensures.within (omega arith) in
    outcome_from c.args.bytes.now c.fault_at-then-byte_at-ne58.result _ _
    (c.spaces_end-start.ensures.same (next_key d k ms) refl refl refl refl
    ∙ key_begins c.args.bytes.now c.spaces_end-start.result d k ms within (sym c.byte_at.ensures.value ∙ mark)
    ∙ c.in_ok-key.ensures.read (as_key ms) d k
    ∙ c.spaces_end-colon.ensures.same (colon d k ms c.in_ok-key.key) refl refl refl refl)
    (colon_fails c.args.bytes.now c.spaces_end-colon.result c.fault_at-then-byte_at-ne58.result d k ms c.in_ok-key.key
    c.fault_at-then-byte_at-ne58.ensures c.spaces_end-colon.ensures.all (λ e. c.if-byte_at-ne58.true (c.byte_at-2.ensures.value ∙ e)))

pub returns-clause-read : goal.returns-clause-read
returns-clause-read c d k ms =
    let mark = c.if-byte_at-ne34.false in
    let after = c.if-byte_at-ne58.false in
    let within : c.spaces_end-start.result < length c.args.bytes.now = c.byte_at.ensures.within (omega arith) in
    let behind : c.spaces_end-colon.result < length c.args.bytes.now = c.byte_at-2.ensures.within (omega arith) in
    c.spaces_end-start.ensures.same (next_key d k ms) refl refl refl refl
    ∙ key_begins c.args.bytes.now c.spaces_end-start.result d k ms within (sym c.byte_at.ensures.value ∙ mark)
    ∙ c.in_ok-key.ensures.read (as_key ms) d k
    ∙ c.spaces_end-colon.ensures.same (colon d k ms c.in_ok-key.key) refl refl refl refl
    ∙ colon_over c.args.bytes.now c.spaces_end-colon.result d k ms c.in_ok-key.key behind (sym c.byte_at-2.ensures.value ∙ after)

use Rattle.std.proofs.Common.{◌≡◌, ◌<◌, ◌+◌, ◌++◌, List, ℕ, length, sym, ap, ◌∙◌, arith, encode_utf8, string_bytes}
use Rattle.std.specs.List.{slice_range}
use Rattle.std.proofs.lemmas.Result.{err_from_is_err_and}
use Rattle.json_read.specs.Machinery.Automaton.{used, in_text, reading}
use Rattle.json_read.proofs.Readings.{outcome_from}
use Rattle.json_read.proofs.TextSpans.{text_ends, escape_begins}
use Rattle.json_read.proofs.strings.escaped_text_of.Goals as goal

pub returns-in_err-character-clause-read : goal.returns-in_err-character-clause-read
returns-in_err-character-clause-read c u d k =
    let e = err_from_is_err_and c.from_residual-in_err-character.result c.from_residual-in_err-character.ensures.1 in
    let mark = c.escapes-test.true in
    let within : c.escapes.at < length c.args.bytes.now = c.byte_at.ensures.within (omega arith) in
    rw (e.1, e.2) (outcome_from c.args.bytes.now _ _ _
    (c.escapes.invariant.read u d k
    ∙ escape_begins c.args.bytes.now c.escapes.at u (string_bytes c.escapes.content) d k within (sym c.byte_at.ensures.value ∙ mark))
    (c.in_err-character.ensures.read u (string_bytes c.escapes.content) d k))

pub returns-in_err-at-clause-read : goal.returns-in_err-at-clause-read
returns-in_err-at-clause-read c u d k =
    let e = err_from_is_err_and c.from_residual-in_err-at.result c.from_residual-in_err-at.ensures.1 in
    let mark = c.escapes-test.true in
    let within : c.escapes.at < length c.args.bytes.now = c.byte_at.ensures.within (omega arith) in
    rw (e.1, e.2) (outcome_from c.args.bytes.now _ _ _
    (c.escapes.invariant.read u d k
    ∙ escape_begins c.args.bytes.now c.escapes.at u (string_bytes c.escapes.content) d k within (sym c.byte_at.ensures.value ∙ mark)
    ∙ c.in_ok-character.ensures.read u (string_bytes c.escapes.content) d k)
    (c.in_err-at.ensures.read u (string_bytes c.escapes.content ++ encode_utf8 c.in_ok-character.character) d k))

pub escapes-preserved : goal.escapes-preserved
escapes-preserved c =
    let mark = c.escapes-test.true in
    let within : c.escapes.at < length c.args.bytes.now = c.byte_at.ensures.within (omega arith) in
    let content = string_bytes c.escapes.content in
    let run = slice_range c.args.bytes.now c.in_ok-character.start c.in_ok-at.at in
    let pushed : string_bytes c.push_str.new.self ≡ content ++ encode_utf8 c.in_ok-character.character ++ run =
    c.in_ok-push_str.ensures.bytes
    ∙ ap (λ (xs : List ℕ). string_bytes c.push.new.self ++ xs) c.run_of.ensures
    ∙ ap (λ (xs : List ℕ). xs ++ run) c.in_ok-push.ensures.bytes in
    let forward = c.escapes.invariant.forward in
    let first = c.in_ok-character.ensures.forward in
    let second = c.in_ok-at.ensures.forward in
    record {
      forward = omega arith;
      within = c.in_ok-at.ensures.read.within;
      stops = c.in_ok-at.ensures.all;
      read = λ u d k. c.escapes.invariant.read u d k
          ∙ escape_begins c.args.bytes.now c.escapes.at u content d k within (sym c.byte_at.ensures.value ∙ mark)
          ∙ c.in_ok-character.ensures.read u content d k
          ∙ c.in_ok-at.ensures.read.reads u (content ++ encode_utf8 c.in_ok-character.character) d k
          ∙ ap (λ (xs : List ℕ). reading c.args.bytes.now (in_text u xs d k) c.in_ok-at.at) (sym pushed);
    }

pub returns-then-byte_at-eq34-clause-read : goal.returns-then-byte_at-eq34-clause-read
returns-then-byte_at-eq34-clause-read c u d k =
    let mark = c.if-byte_at-eq34.true in
    let within : c.escapes.at < length c.args.bytes.now = c.byte_at-2.ensures.within (omega arith) in
    c.escapes.invariant.read u d k
    ∙ text_ends c.args.bytes.now c.escapes.at u (string_bytes c.escapes.content) d k within (sym c.byte_at-2.ensures.value ∙ mark)
    ∙ ap (λ (xs : List ℕ). reading c.args.bytes.now (used u xs d k) (c.escapes.at + 1)) (sym c.from_string.ensures)

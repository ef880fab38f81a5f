use Rattle.std.proofs.Common.{◌≡◌, ◌<◌, length, get_or, ◌∙◌, arith}
use Rattle.json_read.proofs.Readings.{word_read, word_fails, outcome_from}
use Rattle.json_read.proofs.scan.word_end.Goals as goal
use Rattle.json_read.proofs.scan.word_end.Goals.{then-at-bytes-via-then-at-bytes, then-at-bytes-via-else-at-bytes+then-bytes-at}

pub returns-then-at-bytes-clause-read : goal.returns-then-at-bytes-clause-read
returns-then-at-bytes-clause-read c v d k =
    let differs : c.word.at < length c.args.bytes.now → get_or c.args.bytes.now c.word.at 0 ≡ get_or c.args.word.now c.word.byte-index 0 → ⊥ =
    elim c.then-at-bytes.branch [
      | then-at-bytes-via-then-at-bytes w ↦ λ h e. let past = w.if-at-bytes.true in absurd (omega arith)
      | then-at-bytes-via-else-at-bytes+then-bytes-at w ↦ λ h e. w.if-bytes-at.true e
    ] in
    outcome_from c.args.bytes.now c.fault_at.result _ _ (c.word.invariant.read v d k)
    (word_fails c.args.bytes.now c.args.word.now c.fault_at.result v d k c.word.at c.word.byte-index c.fault_at.ensures c.word-test.true differs)

pub word-preserved : goal.word-preserved
word-preserved c =
    let within = c.if-at-bytes.false in
    let forward = c.word.invariant.forward in
    record {
      forward = omega arith;
      within = omega arith;
      read = λ v d k. c.word.invariant.read v d k
          ∙ word_read c.args.bytes.now c.args.word.now v d k c.word.at c.word.byte-index within c.word-test.true c.if-bytes-at.false;
    }

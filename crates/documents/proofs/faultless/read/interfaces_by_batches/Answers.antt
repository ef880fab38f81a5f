use Rattle.std.proofs.Common.{◌+◌, ◌++◌, ◌<◌, List, ℕ, length, subst, arith}
use Rattle.json_tree.specs.Grammar.{Spells}
use Rattle.json_tree.specs.Values.{array, elements_of}
use Rattle.documents.specs.batches.Batches.{batch_text}
use Rattle.documents.proofs.faultless.Whole.{last_text, more_before, whole_read}
use Rattle.documents.proofs.faultless.read.interfaces_by_batches.Goals as goal

pub returns-then-end-bytes : goal.returns-then-end-bytes
returns-then-end-bytes c =
    let before = c.batches.invariant in
    let next = rw c.in-Some.is at c.in_ok-batch.ensures in
    let vs = next.read.0 in
    let batch = next.read.1 in
    let read = c.in_ok-add_batch.ensures (batch_text c.args.bytes.now c.batches.at c.in-Some.batch.end) c.args.document before.0 vs before.1 batch in
    let text = last_text c.args.bytes.now c.batches.at c.in-Some.batch.end c.if-end-bytes.true in
    let spelled = subst (λ (t : List ℕ). Spells t (array (elements_of vs))) text batch.spelled in
    rw c.from_vec.ensures
    (whole_read c.args.bytes.now c.args.document (before.0 ++ vs) c.add_batch.new.uploads.items (before.2 vs batch.some spelled) read)

pub batches-preserved : goal.batches-preserved
batches-preserved c =
    let before = c.batches.invariant in
    let next = rw c.in-Some.is at c.in_ok-batch.ensures in
    let vs = next.read.0 in
    let batch = next.read.1 in
    let end = c.in-Some.batch.end in
    let within : end < length c.args.bytes.now = omega (arith, next.within) in (
      before.0 ++ vs,
      c.in_ok-add_batch.ensures (batch_text c.args.bytes.now c.batches.at end) c.args.document before.0 vs before.1 batch,
      more_before c.args.bytes.now c.batches.at (end + 1) before.0 vs before.2 batch.some
          (λ zs more rest. c.joined.ensures c.args.bytes.now c.batches.at end vs zs next.forward within (next.comma within) batch.some more batch.spelled rest),
    )

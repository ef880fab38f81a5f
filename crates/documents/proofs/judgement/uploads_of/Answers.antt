use Rattle.std.proofs.Common.{◌≡◌, ◌++◌, ap, ◌∙◌}
use Rattle.std.proofs.lemmas.Result.{err_from_is_err_and}
use Rattle.documents.proofs.Judged.{local_fault, unbroken_more, uploads_more}
use Rattle.documents.proofs.judgement.uploads_of.Goals as goal

pub returns-in_err-more : goal.returns-in_err-more
returns-in_err-more c =
    let p = err_from_is_err_and c.from_residual.result c.from_residual.ensures.1 in
    rw (p.1, p.2) (local_fault c.args.trees.now c.loop-at.at c.index-trees-at.result c.in_err-more.field-0.0 c.loop-at-test.true c.index-trees-at.is c.loop-at.invariant.unbroken c.in_err-more.ensures)

pub loop-at-preserved : goal.loop-at-preserved
loop-at-preserved c =
    let read = c.in_ok-more.ensures in
    let items : c.append.new.self.items ≡ c.loop-at.uploads.items ++ c.in_ok-more.more = c.in_ok-append.ensures.items ∙ ap (λ m. c.loop-at.uploads.items ++ m) c.more.view_is in
    record {
      unbroken = unbroken_more c.args.trees.now c.loop-at.at c.index-trees-at.result c.loop-at-test.true c.index-trees-at.is c.loop-at.invariant.unbroken read.0;
      uploaded = rw items
          (uploads_more c.args.trees.now c.loop-at.at c.index-trees-at.result c.loop-at.uploads.items c.in_ok-more.more c.loop-at-test.true c.index-trees-at.is c.loop-at.invariant.uploaded read.1);
    }

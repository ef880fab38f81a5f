use Rattle.std.proofs.Common.{◌≡◌, ◌++◌, ap, ◌∙◌}
use Rattle.documents.proofs.Judged.{faultless_more}
use Rattle.documents.proofs.judgement.faultless_uploads.Goals as goal

pub loop-at-preserved : goal.loop-at-preserved
loop-at-preserved c =
    let items : c.append.new.self.items ≡ c.loop-at.uploads.items ++ c.in-Some.more = c.in_ok-append.ensures.items ∙ ap (λ m. c.loop-at.uploads.items ++ m) c.more.view_is in
    let one = rw c.as_slice.ensures at (rw c.in-Some.is at c.in_ok-more.ensures) in
    rw items (faultless_more c.args.documents.now c.loop-at.at c.index-documents-at.result c.loop-at.uploads.items c.in-Some.more c.loop-at-test.true c.index-documents-at.is c.loop-at.invariant one)

use Rattle.std.proofs.lemmas.Result.{err_from_is_err_and}
use Rattle.documents.proofs.Judged.{json_fault, tree_more}
use Rattle.documents.proofs.judgement.trees_of.Goals as goal

pub returns-in_err-tree_of : goal.returns-in_err-tree_of
returns-in_err-tree_of c =
    let p = err_from_is_err_and c.from_residual.result c.from_residual.ensures.1 in
    let named = rw c.as_slice.ensures at c.in_err-tree_of.ensures in
    rw (p.1, p.2) (json_fault c.args.documents.now c.loop-at.at c.index-documents-at.result c.loop-at.trees c.in_err-tree_of.field-0.0 c.loop-at-test.true c.index-documents-at.is c.loop-at.invariant named)

pub loop-at-preserved : goal.loop-at-preserved
loop-at-preserved c =
    let spelled = rw c.as_slice.ensures at c.in_ok-tree_of.ensures in
    rw c.in_ok-push.ensures.ok
    (tree_more c.args.documents.now c.loop-at.at c.index-documents-at.result c.loop-at.trees c.in_ok-tree_of.field-0 c.loop-at-test.true c.index-documents-at.is c.loop-at.invariant spelled)

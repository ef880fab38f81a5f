use Rattle.std.proofs.Common.{◌≡◌, ◌∙◌, ap, true, false}
use Rattle.json_tree.specs.View.{view}
use Rattle.json_tree.proofs.Views.{view-List}
use Rattle.documents.proofs.faultless.Whole.{batch_found}
use Rattle.documents.proofs.faultless.batches.interfaces_of_batch.Goals as goal

pub returns : goal.returns
returns c =
    let listed = ap view c.in-List.is ∙ view-List c.in-List.elements in
    let spelled = rw c.in-Some.is at c.in_ok-tree.ensures in
    batch_found c.args.text.now c.args.document (view c.in-Some.tree) c.in-List.elements c.uploads_of.result listed
    (λ none. let empty : false ≡ true = c.if-is_empty.ensures.1 none in cc) spelled c.uploads_of.ensures

use Rattle.json_tree.specs.View.{view}
use Rattle.documents.proofs.faultless.Whole.{whole_found}
use Rattle.documents.proofs.faultless.read.interfaces_of_whole.Goals as goal

pub returns-in-Some : goal.returns-in-Some
returns-in-Some c =
    let spelled = rw c.in-Some.is at c.in_ok-tree.ensures in
    whole_found c.args.bytes.now c.args.document (view c.in-Some.tree) c.uploads_of.result spelled c.uploads_of.ensures

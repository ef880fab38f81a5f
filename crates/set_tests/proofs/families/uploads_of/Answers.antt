use Rattle.std.proofs.Common.{refl}
use Rattle.json_tree.specs.View.{view}
use Rattle.json_tree.proofs.DistinctKeys.{spelled_distinct}
use Rattle.set_tests.proofs.families.uploads_of.Goals as goal

pub returns : goal.returns
returns c =
    let value = view c.in_ok-tree.tree in
    c.have_declarations.ensures value 1 c.in_ok-uploads.uploads
    (spelled_distinct c.as_bytes.result.now value ((c.in_ok-tree.ensures value).1 refl))
    c.in_ok-uploads.ensures.fault
    c.in_ok-uploads.ensures.declares

use Rattle.std.proofs.Common.{refl}
use Rattle.std.specs.Prelude.{MatchResult}
use Rattle.json_tree.specs.View.{view}
use Rattle.json_read.proofs.Pointed.{if_ok}
use Rattle.twin_patch.specs.Operations.{operations_of}
use Rattle.twin_patch.specs.Reading.{IsPatch}
use Rattle.graph_routes.specs.Bodies.{RefusesPatch}
use Rattle.graph_routes.specs.Machinery.Found.{ReadsPatchBody}
use Rattle.graph_routes.proofs.Patched.{patch_read}
use Rattle.graph_routes.proofs.patches.patch_in.Goals as goal

pub returns-in-Ok : goal.returns-in-Ok
returns-in-Ok c =
    let value = view c.in-Ok.tree in
    if_ok c.patch_of.result (λ found. MatchResult found (λ patch. IsPatch c.args.of value (operations_of patch.ops)) (RefusesPatch c.args.of value)) (ReadsPatchBody c.args.of c.args.body.now)
    (λ found is. patch_read c.args.of c.args.body.now value ((c.in-Ok.ensures value).1 refl) found is) c.patch_of.ensures

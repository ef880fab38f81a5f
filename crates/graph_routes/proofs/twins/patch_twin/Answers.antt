use Rattle.std.proofs.Common.{inr}
use Rattle.json_read.proofs.Pointed.{if_ok}
use Rattle.page_tokens.specs.Tokens.{NamesId}
use Rattle.graph_routes.specs.Outcomes.{WithBody}
use Rattle.graph_routes.specs.TwinRequests.{AsksTwin, PatchesTwin}
use Rattle.graph_routes.specs.declared.method.Method.TheVariants as method
use Rattle.graph_routes.proofs.twins.patch_twin.Goals as goal

pub returns-in-Some : goal.returns-in-Some
returns-in-Some c =
    let id = c.in-Some.id in
    let names : NamesId c.args.part.now id = rw c.in-Some.is at c.in_ok-id.ensures in
    if_ok c.patches_twin.result (WithBody c.args.body.now (PatchesTwin id)) (AsksTwin method.Patch c.args.part.now c.args.body.now) (λ answer gives. inr (id, names, gives)) c.patches_twin.ensures

use Rattle.std.proofs.Common.{inr}
use Rattle.json_read.proofs.Pointed.{if_ok}
use Rattle.page_tokens.specs.Tokens.{NamesId}
use Rattle.graph_routes.specs.Parts.{NamesComponentPart}
use Rattle.graph_routes.specs.Outcomes.{WithBody}
use Rattle.graph_routes.specs.TwinRequests.{AsksPart, PatchesPart}
use Rattle.graph_routes.specs.declared.method.Method.TheVariants as method
use Rattle.graph_routes.proofs.twins.patch_part.Goals as goal

pub returns-in-Some-2 : goal.returns-in-Some-2
returns-in-Some-2 c =
    let id = c.in-Some.id in
    let name = c.in-Some-2.name in
    let is : NamesId c.args.part.now id = rw c.in-Some.is at c.in_ok-id.ensures in
    let named : NamesComponentPart c.args.second.now name = rw c.in-Some-2.is at c.in_ok-name.ensures in
    if_ok c.patches_part.result (WithBody c.args.body.now (PatchesPart id name)) (AsksPart method.Patch c.args.part.now c.args.second.now c.args.body.now)
    (λ answer gives. inr (id, is, inr (name, named, gives))) c.patches_part.ensures

use Rattle.std.proofs.Common.{inr}
use Rattle.json_read.proofs.Pointed.{if_ok}
use Rattle.page_tokens.specs.Tokens.{NamesId}
use Rattle.graph_routes.specs.Outcomes.{WithBody}
use Rattle.graph_routes.specs.LinkRequests.{AsksLink, PatchesLink}
use Rattle.graph_routes.specs.declared.method.Method.TheVariants as method
use Rattle.graph_routes.proofs.links.patch_link.Goals as goal

pub returns-in-Some-2 : goal.returns-in-Some-2
returns-in-Some-2 c =
    let source = c.in-Some.source in
    let id = c.in-Some-2.id in
    let from : NamesId c.args.part.now source = rw c.in-Some.is at c.in_ok-source.ensures in
    let is : NamesId c.args.second.now id = rw c.in-Some-2.is at c.in_ok-id.ensures in
    if_ok c.patches_link.result (WithBody c.args.body.now (PatchesLink source id)) (AsksLink method.Patch c.args.part.now c.args.second.now c.args.body.now)
    (λ answer gives. inr (source, from, inr (id, is, gives))) c.patches_link.ensures

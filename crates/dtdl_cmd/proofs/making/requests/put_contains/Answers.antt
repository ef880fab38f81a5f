use Rattle.std.proofs.Common.{List, ℕ, ◌+◌, ◌++◌, ap, ◌∙◌}
use Rattle.std.specs.Prelude.{codes}
use Rattle.dtdl_cmd.specs.making.Requests.{link_path, numeral}
use Rattle.dtdl_cmd.proofs.making.Puts.{put_as}
use Rattle.dtdl_cmd.proofs.making.requests.put_contains.Goals as goal

pub returns : goal.returns
returns c =
    put_as c.request.result c.as_str.result.now (link_path c.args.k (codes "c-")) c.as_str-2.result.now
    (codes "{\"$targetId\":\"room-" ++ (numeral (c.args.k + 1) ++ codes "\",\"$relationshipName\":\"contains\"}"))
    (c.as_str.ensures.value ∙ c.in_ok-path.ensures.ok ∙ ap (λ (n : List ℕ). codes "/digitaltwins/room-" ++ (n ++ (codes "/relationships/c-" ++ n))) c.in_ok-this.ensures)
    (c.as_str-2.ensures.value ∙ c.in_ok-body.ensures.ok ∙ ap (λ (n : List ℕ). codes "{\"$targetId\":\"room-" ++ (n ++ codes "\",\"$relationshipName\":\"contains\"}")) c.in_ok-next.ensures)
    c.request.ensures

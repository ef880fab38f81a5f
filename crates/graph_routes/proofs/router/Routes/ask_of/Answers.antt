use Rattle.std.proofs.Common.{ℕ, List, inr, subst}
use Rattle.json_read.proofs.Pointed.{if_ok}
use Rattle.graph_routes.specs.Paths.{Matches}
use Rattle.graph_routes.specs.Prepared.{AsksOf, IsPrepared}
use Rattle.graph_routes.proofs.router.Routes.ask_of.Goals as goal

pub returns-in-Some : goal.returns-in-Some
unfolding IsPrepared
returns-in-Some c =
    let r = c.in-Some.route in
    let there = c.in-Some.ensures in
    let path = c.as_str.ensures in
    let m = subst (Matches r there.0) path there.1 in
    if_ok c.asked_of.result (λ answer. (parts : List (List ℕ)) → Matches r parts c.args.request.now.path → AsksOf r parts c.args.request.now answer) (IsPrepared c.args.request.now)
    (λ answer asks. inr (r, there.0, m, asks there.0 m)) c.asked_of.ensures

use Rattle.json_tree.specs.View.{view}
use Rattle.twin_value.specs.Breaches.{IsFirstBodyBreach, IsOuterBreach}
use Rattle.graph_routes.proofs.OuterBreaches.{twin_somewhere}
use Rattle.graph_routes.proofs.outer.twin_refusal.Goals as goal

pub fault_at-requires : goal.fault_at-requires
fault_at-requires c =
    let v = view c.args.tree.now in
    let first : IsFirstBodyBreach (IsOuterBreach v) c.in-Some.place.steps c.in-Some.code = rw c.in-Some.is at c.in_ok-place.ensures in
    twin_somewhere v c.in-Some.place.steps c.in-Some.code first.breach

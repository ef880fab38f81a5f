use Rattle.std.proofs.Common.{◌≡◌, ◌++◌, [], length, map, sym, ap, ◌∙◌, arith}
use Rattle.std.specs.Option.{option_copied}
use Rattle.std.specs.List.{filter}
use Rattle.std.proofs.lemmas.Grind.{common_steps}
use Rattle.graph_steps.specs.paging.Rows.{is_edge_called}
use Rattle.graph_steps.proofs.paging.Firsts.{take_front, take_all}
use Rattle.graph_steps.proofs.paging.first.first_called.Goals as goal

pub returns-then-len-eq-DECIDING : goal.returns-then-len-eq-DECIDING
returns-then-len-eq-DECIDING g c =
    let p = is_edge_called (option_copied c.args.name) in
    let a = c.len.ensures in
    let b = c.if-len-eq-DECIDING.true in
    take_front 101 (map (λ e. e.now) c.edges.first.items) (filter p c.edges.edge-iterator) (filter p c.args.listing) c.edges.invariant.0 (grind (arith, common_steps))

pub returns : goal.returns
returns g c =
    let p = is_edge_called (option_copied c.args.name) in
    let none = c.in-None.ensures.steps.0 in
    let few = c.edges.invariant.1 in
    take_all 101 (map (λ e. e.now) c.edges.first.items) (filter p c.args.listing) (sym (ap (λ es. map (λ e. e.now) c.edges.first.items ++ filter p es) none) ∙ c.edges.invariant.0) (grind (arith, common_steps))

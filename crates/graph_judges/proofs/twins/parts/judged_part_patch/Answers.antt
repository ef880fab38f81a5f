use Rattle.std.proofs.Common.{◌≡◌, ℕ, List, sym, ap, ◌∙◌, subst}
use Rattle.std.specs.Prelude.{IfOk}
use Rattle.graph_steps.specs.held.Held.{state_of, twin_of}
use Rattle.graph_steps.specs.States.{twin_at}
use Rattle.graph_steps.proofs.invariants.Twins.{twin_there}
use Rattle.graph_judges.specs.declared.twins.new_twin.NewTwin.{NewTwin}
use Rattle.graph_judges.proofs.twins.Judging.{own_place}
use Rattle.graph_judges.proofs.twins.parts.judged_part_patch.Goals as goal

pub judged_part_of-requires-clause-there : goal.judged_part_of-requires-clause-there
judged_part_of-requires-clause-there c = own_place (state_of c.args.lent.now) c.in-Some.held.now.twin.model c.in-Some-interface.interface.now (sym c.in-Some-interface.ensures)

pub judged_part_of-requires-clause-at : goal.judged_part_of-requires-clause-at
judged_part_of-requires-clause-at c =
    let own = (twin_there (state_of c.args.lent.now) c.args.id.now (twin_of c.in-Some.held.now) (sym c.in-Some.ensures.at)).0 in
    ap (λ (q : List ℕ). twin_at q (state_of c.args.lent.now)) own ∙ sym c.in-Some.ensures.at

pub returns-clause-id : goal.returns-clause-id
returns-clause-id c =
    let own = (twin_there (state_of c.args.lent.now) c.args.id.now (twin_of c.in-Some.held.now) (sym c.in-Some.ensures.at)).0 in
    subst (λ (id : List ℕ). IfOk c.judged_part_of.result (λ (new : NewTwin). new.twin.id ≡ id)) own c.judged_part_of.ensures.id

use Rattle.std.proofs.Common.{◌≡◌}
use Rattle.dt_base.specs.names.Grammar.{dtmi_text}
use Rattle.json_tree.specs.View.{view}
use Rattle.graph_steps.specs.bodies.Kept.{twin_view}
use Rattle.graph_steps.specs.held.Held.{state_of}
use Rattle.graph_steps.specs.States.{interface_of, with_twin}
use Rattle.graph_steps.specs.TwinAsks.{Frozen, RefusesBody, after_put_twin}
use Rattle.graph_judges.specs.declared.twins.new_twin.NewTwin.{NewTwin}
use Rattle.graph_judges.proofs.twins.Judged.{judged_second}
use Rattle.graph_judges.proofs.twins.putting.judged_put.Goals as goal

pub returns-clause-judged : goal.returns-clause-judged
returns-clause-judged c =
    let s = state_of c.args.lent.now in
    let id = c.args.id.now in
    let model = c.args.model.now in
    let v = view c.args.tree.now in
    judged_second (λ (new : NewTwin). with_twin (twin_view new.twin) s ≡ after_put_twin s id model v) (Frozen s id) (RefusesBody s id (dtmi_text model) v (interface_of s model)) c.in_ok-there.ensures.frozen
    c.judged_body.result c.judged_body.ensures.judged

use Rattle.std.proofs.Common.{subst}
use Rattle.std.proofs.lemmas.Result.{IfOk-weaker}
use Rattle.graph_steps.specs.held.Held.{state_of}
use Rattle.graph_steps.specs.States.{State}
use Rattle.dtdl_cmd.specs.making.Made.{RequestsLead}
use Rattle.dtdl_cmd.specs.making.Requests.{requests}
use Rattle.dtdl_cmd.proofs.making.maker.make.Goals as goal

pub returns : goal.returns
returns c =
    let s = state_of c.put_all.new.self.machine in
    let leads = subst (λ (x : State). RequestsLead x (requests c.args.number) s) c.in_ok-maker.ensures c.in_ok-put_all.ensures in
    IfOk-weaker c.counts-lines.result _ _ (λ text h. (s, leads, h)) c.counts-lines.ensures

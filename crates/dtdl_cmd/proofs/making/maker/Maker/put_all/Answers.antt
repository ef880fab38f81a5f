use Rattle.std.proofs.lemmas.Result.{on_ok_weaker}
use Rattle.graph_steps.specs.held.Held.{state_of}
use Rattle.dtdl_cmd.specs.making.Requests.{link_requests, post_models, twin_requests}
use Rattle.dtdl_cmd.proofs.making.Leading.{leads_on, one_of}
use Rattle.dtdl_cmd.proofs.making.maker.Maker.put_all.Goals as goal

pub returns : goal.returns
returns c =
    let n = c.args.number in
    let s = state_of c.args.self.now.machine in
    let m = state_of c.take.new.self.machine in
    let b = state_of c.put_twins.new.self.machine in
    let t = state_of c.put_links.new.self.machine in
    on_ok_weaker c.put_links.result (λ h. (
      m,
      one_of s m c.in_ok-models.models post_models c.in_ok-models.ensures c.in_ok-take.ensures,
      leads_on m b t (twin_requests n) (link_requests n n) c.in_ok-put_twins.ensures h,
    )) c.put_links.ensures

use Rattle.std.proofs.lemmas.Result.{on_ok_weaker}
use Rattle.graph_steps.specs.held.Held.{state_of}
use Rattle.dtdl_cmd.specs.making.Requests.{put_has}
use Rattle.dtdl_cmd.proofs.making.Leading.{one_of}
use Rattle.dtdl_cmd.proofs.making.maker.Maker.put_links_of.Goals as goal

pub returns : goal.returns
returns c =
    let s = state_of c.args.self.now.machine in
    let m = state_of c.take.new.self.machine in
    on_ok_weaker c.put_next.result (λ h. (m, one_of s m c.in_ok-has.has (put_has c.args.k) c.in_ok-has.ensures c.in_ok-take.ensures, h)) c.put_next.ensures

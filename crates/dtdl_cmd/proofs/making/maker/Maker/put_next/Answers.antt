use Rattle.std.proofs.Common.{arith}
use Rattle.graph_steps.specs.held.Held.{state_of}
use Rattle.dtdl_cmd.specs.making.Requests.{put_contains}
use Rattle.dtdl_cmd.proofs.making.Leading.{next, one, one_of}
use Rattle.dtdl_cmd.proofs.making.maker.Maker.put_next.Goals as goal

pub returns-in_ok-take : goal.returns-in_ok-take
returns-in_ok-take c =
    let s = state_of c.args.self.now.machine in
    let t = state_of c.take.new.self.machine in
    next s t c.args.number c.args.k (omega (arith, c.if-k-number.true))
    (one s t (put_contains c.args.k) (one_of s t c.in_ok-contains.contains (put_contains c.args.k) c.in_ok-contains.ensures c.in_ok-take.ensures))

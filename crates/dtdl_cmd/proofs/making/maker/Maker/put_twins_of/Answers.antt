use Rattle.std.proofs.lemmas.Result.{on_ok_weaker}
use Rattle.std.proofs.Common.{refl}
use Rattle.graph_steps.specs.held.Held.{state_of}
use Rattle.dtdl_cmd.specs.making.Requests.{put_room, put_sensor}
use Rattle.dtdl_cmd.proofs.making.Leading.{one_of}
use Rattle.dtdl_cmd.proofs.making.maker.Maker.put_twins_of.Goals as goal

pub returns : goal.returns
returns c =
    let s = state_of c.args.self.now.machine in
    let m = state_of c.take.new.self.machine in
    let t = state_of c.take-2.new.self.machine in
    on_ok_weaker c.take-2.result (λ h. (
      m,
      one_of s m c.in_ok-room.room (put_room c.args.k) c.in_ok-room.ensures c.in_ok-take.ensures,
      (t, one_of m t c.in_ok-sensor.sensor (put_sensor c.args.k) c.in_ok-sensor.ensures h, refl),
    )) c.take-2.ensures

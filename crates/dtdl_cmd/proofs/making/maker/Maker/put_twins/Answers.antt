use Rattle.std.proofs.Common.{arith}
use Rattle.graph_steps.specs.held.Held.{state_of}
use Rattle.dtdl_cmd.proofs.making.Leading.{more_twins}
use Rattle.dtdl_cmd.proofs.making.maker.Maker.put_twins.Goals as goal

pub rooms-preserved : goal.rooms-preserved
rooms-preserved c = record {
  leads = more_twins (state_of c.args.self.now.machine) (state_of c.rooms.self.machine) (state_of c.put_twins_of.new.self.machine) c.rooms.k _ (omega arith) c.rooms.invariant.leads c.in_ok-put_twins_of.ensures;
  few = omega (arith, c.rooms-test.true);
}

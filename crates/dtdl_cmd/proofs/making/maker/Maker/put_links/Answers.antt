use Rattle.std.proofs.Common.{arith}
use Rattle.graph_steps.specs.held.Held.{state_of}
use Rattle.dtdl_cmd.proofs.making.Leading.{more_links}
use Rattle.dtdl_cmd.proofs.making.maker.Maker.put_links.Goals as goal

pub rooms-preserved : goal.rooms-preserved
rooms-preserved c = record {
  leads = more_links (state_of c.args.self.now.machine) (state_of c.rooms.self.machine) (state_of c.put_links_of.new.self.machine) c.args.number c.rooms.k _ (omega arith) c.rooms.invariant.leads c.in_ok-put_links_of.ensures;
  few = omega (arith, c.rooms-test.true);
}

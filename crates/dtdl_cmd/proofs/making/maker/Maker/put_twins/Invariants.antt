use Rattle.std.proofs.Common.{◌≤◌, ◌-◌}
use Rattle.graph_steps.specs.held.Held.{state_of}
use Rattle.dtdl_cmd.specs.making.Made.{RequestsLead}
use Rattle.dtdl_cmd.specs.making.Requests.{twin_requests}
use Rattle.dtdl_cmd.proofs.making.maker.Maker.put_twins.Given as goal

-- the rooms so far and their sensors were put
abbrev pub invariant-rooms : goal.invariant-rooms
invariant-rooms l = record {
  leads : RequestsLead (state_of l.fn.self.machine) (twin_requests l.k) (state_of l.self.machine);
  few : l.k ≤ l.number;
}

abbrev pub decreases-rooms : goal.decreases-rooms
decreases-rooms l = l.number - l.k

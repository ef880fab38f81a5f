use Rattle.graph_steps.specs.States.{set_of}
use Rattle.graph_steps.proofs.bodies.Alike.{twin_alike, link_alike, part_alike, properties_alike, components_alike, payload_alike, link_called_alike}
use Rattle.graph_steps.proofs.bodies.laws.judged_alike.Goals as goal

pub returns : goal.returns
returns c = record {
  twin = λ s i r is. twin_alike (set_of s) is.rules i is.there r is.resolved;
  link = λ s i r is. link_alike (set_of s) is.rules i is.there r is.resolved;
  part = λ s i r is. part_alike (set_of s) is.rules i is.there r is.resolved;
  values = λ s i r is. properties_alike (set_of s) is.rules i is.there r is.resolved;
  parts = λ s i r is. components_alike (set_of s) is.rules i is.there r is.resolved;
  payload = λ s i r is. payload_alike (set_of s) is.rules i is.there r is.resolved;
  called = λ s i r is. link_called_alike (set_of s) is.rules i is.there r is.resolved;
}

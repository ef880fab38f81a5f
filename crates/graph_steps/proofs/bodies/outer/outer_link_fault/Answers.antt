use Rattle.std.proofs.Common.{None}
use Rattle.json_tree.specs.View.{view}
use Rattle.dtdl_terms.specs.Terms.{no_contents}
use Rattle.twin_value.specs.Breaches.{IsOuterLinkBreach, no_library}
use Rattle.twin_value.specs.Roles.{link_body}
use Rattle.graph_steps.proofs.bodies.Faults.{breach_somewhere, found_somewhere, fault_told}
use Rattle.graph_steps.proofs.bodies.outer.outer_link_fault.Goals as goal

pub refusal_of-requires : goal.refusal_of-requires
refusal_of-requires c =
    let v = view c.args.tree.now in
    found_somewhere (IsOuterLinkBreach v) v (λ place broken b. breach_somewhere (link_body no_library None no_contents) v place broken b.0) c.in_ok-found.found c.in_ok-found.ensures

pub returns : goal.returns
returns c = let v = view c.args.tree.now in fault_told (IsOuterLinkBreach v) v c.in_ok-found.found c.refusal_of.result c.in_ok-found.ensures c.refusal_of.ensures

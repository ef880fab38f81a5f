use Rattle.extend_resolve.specs.Machinery.Deepening.{LeadBack}
use Rattle.extend_resolve.proofs.depths.children_of.Given as goal

abbrev pub invariant-links : goal.invariant-links
invariant-links l = LeadBack l.links l.children.items l.child

use Rattle.std.proofs.Common.{take}
use Rattle.extend_resolve.specs.Machinery.Names.{all_contents, AreEntries}
use Rattle.extend_resolve.proofs.names.entries_of.Given as goal

abbrev pub invariant-nodes : goal.invariant-nodes
invariant-nodes l = AreEntries (all_contents (take l.node-index l.nodes)) l.entries.items

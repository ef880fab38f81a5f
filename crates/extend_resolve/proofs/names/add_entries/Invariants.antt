use Rattle.std.proofs.Common.{take}
use Rattle.extend_resolve.specs.Machinery.Names.{AddsEntries}
use Rattle.extend_resolve.proofs.names.add_entries.Given as goal

abbrev pub invariant-contents : goal.invariant-contents
invariant-contents l = AddsEntries l.fn.entries.items l.entries.items (take l.content-index l.node.contents)

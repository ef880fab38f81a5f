use Rattle.std.proofs.Common.{take}
use Rattle.std.specs.List.{AllByRecursion}
use Rattle.canon_text.specs.Identified.{CommonIsIdentified}
use Rattle.canon_text.proofs.own_ids.of_entries.Given as goal

abbrev pub invariant-loop-entry : goal.invariant-loop-entry
invariant-loop-entry l = AllByRecursion (λ e. CommonIsIdentified e.common) (take l.entry-index l.entries)

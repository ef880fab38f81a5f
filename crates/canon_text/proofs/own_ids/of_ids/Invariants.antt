use Rattle.std.proofs.Common.{take}
use Rattle.std.specs.List.{AllByRecursion}
use Rattle.canon_text.specs.Identified.{IsIdentified}
use Rattle.canon_text.proofs.own_ids.of_ids.Given as goal

abbrev pub invariant-loop-id : goal.invariant-loop-id
invariant-loop-id l = AllByRecursion IsIdentified (take l.id-index l.ids)

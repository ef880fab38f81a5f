use Rattle.std.proofs.Common.{take}
use Rattle.std.specs.List.{AllByRecursion}
use Rattle.canon_text.specs.Identified.{InterfaceIsIdentified}
use Rattle.canon_text.proofs.own_ids.each_identified.Given as goal

abbrev pub invariant-loop-interface : goal.invariant-loop-interface
invariant-loop-interface l = AllByRecursion InterfaceIsIdentified (take l.interface-index l.interfaces)

use Rattle.std.proofs.Common.{take}
use Rattle.twin_value.specs.Machinery.Indexes.{IsIndexByName}
use Rattle.twin_value.proofs.index.places_of.Given as goal

-- each name so far leads to the first item that has it
abbrev pub invariant-loop-item : goal.invariant-loop-item
invariant-loop-item g l = IsIndexByName g.T.Keyed.key_of (take l.item-index l.items) l.places

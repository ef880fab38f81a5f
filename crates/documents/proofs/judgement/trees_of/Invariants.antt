use Rattle.std.proofs.Common.{map, take}
use Rattle.std.specs.List.{AllZip}
use Rattle.json_tree.specs.View.{view}
use Rattle.json_tree.specs.Grammar.{Spells}
use Rattle.documents.proofs.judgement.trees_of.Given as goal

-- the values of the documents so far
abbrev pub invariant-loop-at : goal.invariant-loop-at
invariant-loop-at l = AllZip Spells (take l.at l.documents) (map view l.trees)

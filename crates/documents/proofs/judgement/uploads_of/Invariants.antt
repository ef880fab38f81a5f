use Rattle.std.proofs.Common.{map, take}
use Rattle.std.specs.List.{AllByRecursion}
use Rattle.local_rules.specs.Breaches.{BreaksNoLocalRule}
use Rattle.json_tree.specs.View.{view}
use Rattle.documents.specs.FirstFaults.{AllUploaded}
use Rattle.documents.proofs.judgement.uploads_of.Given as goal

-- the interfaces of the documents so far, which break no local rule
abbrev pub invariant-loop-at : goal.invariant-loop-at
invariant-loop-at l = record {
  unbroken : AllByRecursion BreaksNoLocalRule (map view (take l.at l.trees));
  uploaded : AllUploaded 1 (map view (take l.at l.trees)) l.uploads.items;
}

use Rattle.std.proofs.Common.{take}
use Rattle.documents.specs.Machinery.Documents.{AreFaultless}
use Rattle.documents.proofs.judgement.faultless_uploads.Given as goal

-- the interfaces of the documents so far
abbrev pub invariant-loop-at : goal.invariant-loop-at
invariant-loop-at l = AreFaultless 1 (take l.at l.documents) l.uploads.items

use Rattle.std.proofs.Common.{List, ◌-◌, length}
use Rattle.json_tree.specs.Values.{Json}
use Rattle.documents.specs.faultless.Machinery.Placed.{AreBefore, AreReadElements}
use Rattle.documents.proofs.faultless.read.interfaces_by_batches.Given as goal

-- the elements before this position, and their interfaces
abbrev pub invariant-batches : goal.invariant-batches
invariant-batches l = (vs : List Json) × AreReadElements l.document vs l.uploads.items × AreBefore l.bytes l.at vs

abbrev pub decreases-batches : goal.decreases-batches
decreases-batches l = length l.bytes - l.at

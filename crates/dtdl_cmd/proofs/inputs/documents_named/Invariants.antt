use Rattle.std.proofs.Common.{◌≡◌, ◌≤◌, ◌+◌, Some, map, take}
use Rattle.std.specs.List.{AllZip}
use Rattle.dtdl_cmd.specs.Documents.{MAX_BYTES, documents_bytes}
use Rattle.dtdl_cmd.proofs.Gathered.{Under}
use Rattle.dtdl_cmd.proofs.inputs.documents_named.Given as goal

-- what was fetched so far, and the room that is left
abbrev pub invariant-loop-at : goal.invariant-loop-at
invariant-loop-at g l = record {
  fetched : AllZip (Under (g.F.Shelf.files l.fn.shelf)) (take l.at l.names) (map Some l.documents);
  room : documents_bytes l.documents + l.room ≡ MAX_BYTES;
  count : g.F.Shelf.faults l.fn.shelf ≤ g.F.Shelf.faults l.shelf;
  same : g.F.Shelf.files l.shelf ≡ g.F.Shelf.files l.fn.shelf;
}

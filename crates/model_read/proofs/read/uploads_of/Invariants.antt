use Rattle.std.proofs.Common.{take}
use Rattle.std.specs.List.{AllZip, enumerate_from}
use Rattle.json_tree.specs.View.{view, elements_view}
use Rattle.json_tree.specs.Members.{list_of}
use Rattle.model_read.specs.Uploads.{IsUploadedAt}
use Rattle.model_read.proofs.read.uploads_of.Given as goal

-- what was read so far is that of the entries so far
abbrev pub invariant-loop-at : goal.invariant-loop-at
invariant-loop-at l = AllZip (IsUploadedAt (view l.whole) l.document) (enumerate_from 0 (list_of (elements_view (take l.at l.entries)))) l.uploads.items

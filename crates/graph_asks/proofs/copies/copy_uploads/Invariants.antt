use Rattle.std.proofs.Common.{◌≡◌, take}
use Rattle.graph_asks.proofs.copies.copy_uploads.Given as goal

abbrev pub invariant-loop-upload : goal.invariant-loop-upload
invariant-loop-upload l = l.copies.items ≡ take l.upload-index l.uploads

use Rattle.std.proofs.Common.{◌≡◌, take}
use Rattle.dtdl_terms.proofs.content.+content_copies.Given as goal

abbrev pub invariant-copy_contents-loop-content : goal.invariant-copy_contents-loop-content
invariant-copy_contents-loop-content l = l.copies.items ≡ take l.content-index l.contents

use Rattle.std.proofs.Common.{◌≡◌, take}
use Rattle.twin_patch.proofs.copies.copy_path.Given as goal

abbrev pub invariant-loop-part : goal.invariant-loop-part
invariant-loop-part l = l.copies.items ≡ take l.part-index l.path

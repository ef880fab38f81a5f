use Rattle.std.proofs.Common.{length}
use Rattle.json_tree.proofs.evaluation.+at.Given as goal

abbrev pub decreases-at : goal.decreases-at
decreases-at l = length l.pointer.now

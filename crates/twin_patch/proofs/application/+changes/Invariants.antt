use Rattle.std.proofs.Common.{length, ◌+◌, ◌*◌}
use Rattle.twin_patch.proofs.application.+changes.Given as goal

abbrev pub decreases-changed : goal.decreases-changed
decreases-changed l = 4 * length l.rest.now + 2

abbrev pub decreases-changed_tree : goal.decreases-changed_tree
decreases-changed_tree l = 4 * length l.rest.now + 1

abbrev pub decreases-changed_object : goal.decreases-changed_object
decreases-changed_object l = 4 * length l.rest.now

abbrev pub decreases-changed_below : goal.decreases-changed_below
decreases-changed_below l = 4 * length l.rest.now + 3

use Rattle.std.proofs.Common.{◌≡◌, ◌++◌, length}
use Rattle.std.specs.Prelude.{reverse}
use Rattle.dtdl_cmd.specs.Answers.{uploaded_interfaces}
use Rattle.dtdl_cmd.proofs.answers.without_places.Given as goal

-- the interfaces that are left, and those that were taken, last first, are all
abbrev pub invariant-left : goal.invariant-left
invariant-left l = uploaded_interfaces l.left.items ++ reverse l.interfaces.items ≡ uploaded_interfaces l.fn.uploads.items

abbrev pub decreases-left : goal.decreases-left
decreases-left l = length l.left.items

-- Members that are put behind others, each sorted.
use Rattle.std.specs.Prelude.{List}
use Rattle.json_decimal.specs.Number.{Number}
use Rattle.json_tree.specs.Values.{Members}
use Rattle.json_tree.specs.View.{members_view}
use Rattle.json_tree.specs.Sorting.{MembersAreSortedOf}
use Rattle.json_tree.specs.declared.tree.Member.{Member}
use Rattle.twin_value.specs.Twins.{joined_members}

-- These were put behind what was there.
abbrev pub PutsBehind : List Member → List Member → Members Number → Type 0
PutsBehind old new more = (before : Members Number) → MembersAreSortedOf before (members_view old) → MembersAreSortedOf (joined_members before more) (members_view new)

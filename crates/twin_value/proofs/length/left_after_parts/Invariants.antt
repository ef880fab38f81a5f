use Rattle.std.proofs.Common.{◌≡◌, ◌+◌, drop}
use Rattle.json_tree.specs.View.{members_view}
use Rattle.json_length.specs.Lengths.{members_length}
use Rattle.twin_value.specs.Twins.{picked, any_key, with_metadata}
use Rattle.twin_value.proofs.length.left_after_parts.Given as goal

-- what is spent so far and the length of the components that are left are that of all
abbrev pub invariant-loop-part : goal.invariant-loop-part
invariant-loop-part l =
    l.fn.left + members_length (picked any_key with_metadata (members_view (drop l.part-index l.parts)))
    ≡ l.rest + members_length (picked any_key with_metadata (members_view l.parts))

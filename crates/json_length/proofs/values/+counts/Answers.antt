use Rattle.std.proofs.Common.{rules, arith}
use Rattle.json_length.proofs.Lengths.{closed_behind, elements_some, members_some}
use Rattle.json_length.proofs.values.+counts.Goals as goal

pub left_after_array-returns : goal.left_after_array-returns
left_after_array-returns t c =
    closed_behind _ _ _ _ _ c.left_after_elements.ensures (omega arith) (elements_some c.args.items.now (search rules))

pub left_after_object-returns : goal.left_after_object-returns
left_after_object-returns t c =
    closed_behind _ _ _ _ _ c.left_after_members.ensures (omega arith) (members_some c.args.members.now (search rules))

use Rattle.std.proofs.Common.{◌≡◌, ◌+◌, length, arith}
use Rattle.json_tree.specs.Printing.{quoted}
use Rattle.json_tree.specs.View.{view}
use Rattle.json_length.specs.Lengths.{members_length}
use Rattle.json_tree.specs.Members.{members_in}
use Rattle.twin_value.proofs.TwinLengths.{ended, followed, part_length}
use Rattle.twin_value.proofs.length.left_after_part.Goals as goal

pub returns-in_err-left-2 : goal.returns-in_err-left-2
returns-in_err-left-2 c =
    let key : c.in_ok-left.left + length (quoted c.args.part.now.key) ≡ c.args.left = rw c.as_str.ensures at c.in_ok-left.ensures in
    let low = c.in_err-left-2.ensures in
    let part = part_length (view c.args.part.now.value) in
    ended _ _ _ c.from_residual-in_err-left-2.ensures (omega (arith, part))

pub returns : goal.returns
returns c =
    let key : c.in_ok-left.left + length (quoted c.args.part.now.key) ≡ c.args.left = rw c.as_str.ensures at c.in_ok-left.ensures in
    let low = c.in_ok-left-2.ensures in
    let part = part_length (view c.args.part.now.value) in
    let members = c.left_after_members.ensures in
    followed _ _ (members_length (members_in (view c.args.part.now.value))) _ _ (rw c.members_in.ensures at members) (omega (arith, part))

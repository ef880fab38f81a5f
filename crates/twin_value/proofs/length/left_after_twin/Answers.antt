use Rattle.std.proofs.Common.{◌≡◌, ◌+◌, codes, arith}
use Rattle.json_tree.specs.Values.{text}
use Rattle.json_tree.specs.View.{view}
use Rattle.json_length.specs.Lengths.{member_length, members_length}
use Rattle.json_tree.specs.Members.{members_in}
use Rattle.twin_value.specs.Twins.{picked, any_key, with_metadata}
use Rattle.twin_value.proofs.TwinLengths.{ended, followed, twin_length}
use Rattle.twin_value.proofs.length.left_after_twin.Goals as goal

pub returns-in_err-left-2 : goal.returns-in_err-left-2
returns-in_err-left-2 c =
    let one = c.in_ok-checked_sub.ensures in
    let id : c.in_ok-left.left + member_length (codes "$dtId", text c.args.t.now.id) ≡ c.in_ok-checked_sub.field-0 = rw c.as_str.ensures at c.in_ok-left.ensures in
    let low = c.in_err-left-2.ensures in
    let whole = twin_length c.args.t.now in
    ended _ _ _ c.from_residual-in_err-left-2.ensures (omega (arith, whole))

pub returns-in_err-left-3 : goal.returns-in_err-left-3
returns-in_err-left-3 c =
    let one = c.in_ok-checked_sub.ensures in
    let id : c.in_ok-left.left + member_length (codes "$dtId", text c.args.t.now.id) ≡ c.in_ok-checked_sub.field-0 = rw c.as_str.ensures at c.in_ok-left.ensures in
    let metadata = c.in_ok-left-2.ensures in
    let values = c.members_in.ensures in
    let low = c.in_err-left-3.ensures in
    let whole = twin_length c.args.t.now in
    ended _ _ _ c.from_residual-in_err-left-3.ensures (omega (arith, whole, rw values at low))

pub returns : goal.returns
returns c =
    let one = c.in_ok-checked_sub.ensures in
    let id : c.in_ok-left.left + member_length (codes "$dtId", text c.args.t.now.id) ≡ c.in_ok-checked_sub.field-0 = rw c.as_str.ensures at c.in_ok-left.ensures in
    let metadata = c.in_ok-left-2.ensures in
    let values : c.in_ok-left-3.left + members_length (members_in (view c.args.t.now.values)) ≡ c.in_ok-left-2.left = rw c.members_in.ensures at c.in_ok-left-3.ensures in
    let parts = c.left_after_parts.ensures in
    let whole = twin_length c.args.t.now in
    followed _ _ (members_length (picked any_key with_metadata (members_in (view c.args.t.now.parts)))) _ _ (rw c.members_in-2.ensures at parts) (omega (arith, whole))

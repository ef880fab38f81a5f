use Rattle.std.proofs.Common.{◌≡◌, ◌+◌, ◌<◌, codes, arith}
use Rattle.json_tree.specs.Values.{text}
use Rattle.json_tree.specs.View.{view}
use Rattle.json_length.specs.Lengths.{member_length, members_length}
use Rattle.json_tree.specs.Members.{members_in}
use Rattle.twin_value.proofs.TwinLengths.{ended, followed, link_length}
use Rattle.twin_value.proofs.length.left_after_link.Goals as goal

pub returns-in_err-left-2 : goal.returns-in_err-left-2
returns-in_err-left-2 c =
    let one = c.in_ok-checked_sub.ensures in
    let id : c.in_ok-left.left + member_length (codes "$relationshipId", text c.args.r.now.id) ≡ c.in_ok-checked_sub.field-0 = rw c.as_str.ensures at c.in_ok-left.ensures in
    let low : c.in_ok-left.left < member_length (codes "$relationshipName", text c.args.r.now.name) = rw c.as_str-2.ensures at c.in_err-left-2.ensures in
    let whole = link_length c.args.r.now in
    ended _ _ _ c.from_residual-in_err-left-2.ensures (omega (arith, whole))

pub returns-in_err-left-3 : goal.returns-in_err-left-3
returns-in_err-left-3 c =
    let one = c.in_ok-checked_sub.ensures in
    let id : c.in_ok-left.left + member_length (codes "$relationshipId", text c.args.r.now.id) ≡ c.in_ok-checked_sub.field-0 = rw c.as_str.ensures at c.in_ok-left.ensures in
    let name : c.in_ok-left-2.left + member_length (codes "$relationshipName", text c.args.r.now.name) ≡ c.in_ok-left.left = rw c.as_str-2.ensures at c.in_ok-left-2.ensures in
    let low : c.in_ok-left-2.left < member_length (codes "$sourceId", text c.args.r.now.source) = rw c.as_str-3.ensures at c.in_err-left-3.ensures in
    let whole = link_length c.args.r.now in
    ended _ _ _ c.from_residual-in_err-left-3.ensures (omega (arith, whole))

pub returns-in_err-left-4 : goal.returns-in_err-left-4
returns-in_err-left-4 c =
    let one = c.in_ok-checked_sub.ensures in
    let id : c.in_ok-left.left + member_length (codes "$relationshipId", text c.args.r.now.id) ≡ c.in_ok-checked_sub.field-0 = rw c.as_str.ensures at c.in_ok-left.ensures in
    let name : c.in_ok-left-2.left + member_length (codes "$relationshipName", text c.args.r.now.name) ≡ c.in_ok-left.left = rw c.as_str-2.ensures at c.in_ok-left-2.ensures in
    let source : c.in_ok-left-3.left + member_length (codes "$sourceId", text c.args.r.now.source) ≡ c.in_ok-left-2.left = rw c.as_str-3.ensures at c.in_ok-left-3.ensures in
    let low : c.in_ok-left-3.left < member_length (codes "$targetId", text c.args.r.now.target) = rw c.as_str-4.ensures at c.in_err-left-4.ensures in
    let whole = link_length c.args.r.now in
    ended _ _ _ c.from_residual-in_err-left-4.ensures (omega (arith, whole))

pub returns : goal.returns
returns c =
    let one = c.in_ok-checked_sub.ensures in
    let id : c.in_ok-left.left + member_length (codes "$relationshipId", text c.args.r.now.id) ≡ c.in_ok-checked_sub.field-0 = rw c.as_str.ensures at c.in_ok-left.ensures in
    let name : c.in_ok-left-2.left + member_length (codes "$relationshipName", text c.args.r.now.name) ≡ c.in_ok-left.left = rw c.as_str-2.ensures at c.in_ok-left-2.ensures in
    let source : c.in_ok-left-3.left + member_length (codes "$sourceId", text c.args.r.now.source) ≡ c.in_ok-left-2.left = rw c.as_str-3.ensures at c.in_ok-left-3.ensures in
    let target : c.in_ok-left-4.left + member_length (codes "$targetId", text c.args.r.now.target) ≡ c.in_ok-left-3.left = rw c.as_str-4.ensures at c.in_ok-left-4.ensures in
    let values = c.left_after_members.ensures in
    let whole = link_length c.args.r.now in
    followed _ _ (members_length (members_in (view c.args.r.now.payload))) _ _ (rw c.members_in.ensures at values) (omega (arith, whole))

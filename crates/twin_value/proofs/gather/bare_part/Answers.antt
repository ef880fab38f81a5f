use Rattle.std.proofs.Common.{[], sym, codes, bytes_eq}
use Rattle.std.specs.Prelude.{not}
use Rattle.json_tree.specs.View.{members_view}
use Rattle.twin_value.specs.Twins.{picked, same_value}
use Rattle.twin_value.proofs.Gathered.{adds_none, picked_either, picked_done, added}
use Rattle.twin_value.proofs.gather.bare_part.Goals as goal

pub loop-member-init : goal.loop-member-init
loop-member-init c = rw c.in_ok-members.ensures.items (adds_none [])

pub loop-member-preserved : goal.loop-member-preserved
loop-member-preserved c =
    picked_either (λ key. not (bytes_eq key (codes "$metadata"))) same_value [] _ _ c.members_in-from.result.now c.loop-member.member-index c.member-item.result c.loop-member-test.true c.member-item.is c.loop-member.invariant
    (rw (c.ne-passes.ensures, c.as_str.ensures) at c.in-Ok.ensures)

pub returns : goal.returns
returns c =
    rw (sym c.members_in-from.ensures)
    (c.ordered.ensures (picked (λ key. not (bytes_eq key (codes "$metadata"))) same_value (members_view c.members_in-from.result.now))
    (added _ _ (picked_done (λ key. not (bytes_eq key (codes "$metadata"))) same_value [] _ c.members_in-from.result.now c.loop-member.member-index c.loop-member-test.false c.loop-member.invariant)))

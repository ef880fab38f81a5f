use Rattle.twin_value.proofs.Gathered.{adds_none, all_next}
use Rattle.twin_value.proofs.gather.push_all.Goals as goal

pub loop-member-init : goal.loop-member-init
loop-member-init c = adds_none _

pub loop-member-preserved : goal.loop-member-preserved
loop-member-preserved c =
    all_next _ _ _ c.args.from.now c.loop-member.member-index c.member-item.result c.loop-member-test.true c.member-item.is c.loop-member.invariant
    (rw c.as_str.ensures at c.in_ok-push_sorted.ensures)

use Rattle.json_tree.specs.View.{view}
use Rattle.twin_value.specs.Twins.{any_key, with_metadata}
use Rattle.twin_value.proofs.Gathered.{adds_none, picked_either}
use Rattle.twin_value.proofs.print.push_parts.Goals as goal

pub loop-member-init : goal.loop-member-init
loop-member-init c = adds_none _

pub loop-member-preserved : goal.loop-member-preserved
loop-member-preserved c =
    picked_either any_key with_metadata _ _ _ c.args.from.now c.loop-member.member-index c.member-item.result c.loop-member-test.true c.member-item.is c.loop-member.invariant
    (rw c.as_str.ensures at (c.in_ok-push_made.ensures (with_metadata (view c.member-item.result.value)) c.in_ok-value.ensures))

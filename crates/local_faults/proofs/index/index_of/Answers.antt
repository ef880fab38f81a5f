use Rattle.json_tree.specs.View.{view}
use Rattle.local_rules.specs.Levels.{has_id}
use Rattle.local_faults.proofs.Indexed.{position_more}
use Rattle.local_faults.proofs.index.index_of.Goals as goal

pub loop-at-preserved : goal.loop-at-preserved
loop-at-preserved c = λ q.
    position_more (has_id q) view c.args.entries.now c.loop-at.at c.index-entries-at.result c.loop-at-test.true c.index-entries-at.is _ _
    (c.loop-at.invariant q) (c.in_ok-add_entry.ensures q)

use Rattle.local_rules.proofs.Compared.{apart_seen, seen_more}
use Rattle.local_rules.proofs.repeated.apart_in_set.Goals as goal

pub loop-at-preserved : goal.loop-at-preserved
loop-at-preserved c = record {
  apart = apart_seen c.args.comparison c.args.entries.now c.loop-at.at c.index-entries-at.result c.loop-at.seen c.was_seen.new.seen c.in_ok-was_seen.field-0 c.comparison_key_of.result
      c.loop-at-test.true c.index-entries-at.is c.loop-at.invariant.apart c.loop-at.invariant.seen c.comparison_key_of.ensures c.in_ok-was_seen.ensures c.if-branch.false;
  seen = seen_more c.args.comparison c.args.entries.now c.loop-at.at c.index-entries-at.result c.loop-at.seen c.was_seen.new.seen c.in_ok-was_seen.field-0 c.comparison_key_of.result
      c.loop-at-test.true c.index-entries-at.is c.loop-at.invariant.seen c.comparison_key_of.ensures c.in_ok-was_seen.ensures;
}

use Rattle.local_rules.proofs.Compared.{apart_put, put_more}
use Rattle.local_rules.proofs.repeated.apart_in_buckets.Goals as goal

pub loop-at-preserved : goal.loop-at-preserved
loop-at-preserved c = record {
  apart = apart_put c.args.comparison c.args.entries.now c.loop-at.at c.index-entries-at.result c.was_put.result c.comparison_key_of-key.result
      c.loop-at-test.true c.index-entries-at.is c.loop-at.invariant.apart c.comparison_key_of-key.ensures c.was_put.ensures.among c.if-was_put.false;
  put = put_more c.args.comparison c.args.entries.now c.loop-at.at c.index-entries-at.result c.loop-at.buckets c.was_put.new.buckets c.comparison_key_of-key.result
      c.loop-at-test.true c.index-entries-at.is c.comparison_key_of-key.ensures c.loop-at.invariant.put c.was_put.ensures.put;
}

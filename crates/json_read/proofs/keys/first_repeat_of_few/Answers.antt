use Rattle.std.proofs.Common.{◌≡◌, map, take, false, sym, ◌∙◌, true≢false, arith}
use Rattle.std.proofs.lemmas.Grind.{common_steps}
use Rattle.json_read.specs.Machinery.Ways.{has_key}
use Rattle.json_read.proofs.Repeats.{not-seen, used-more}
use Rattle.json_read.proofs.keys.first_repeat_of_few.Goals as goal
use Rattle.json_read.proofs.keys.first_repeat_of_few.Goals.{else-put-via-then-put+else-has_key, else-put-via-else-put}

pub loop-at-preserved : goal.loop-at-preserved
loop-at-preserved c = record {
  first =
      let new : has_key (map (λ m. m.key) (take c.loop-at.at c.args.members.now)) c.as_str-key.result.now ≡ false =
      elim c.else-put.branch [
        | else-put-via-then-put+else-has_key w ↦ sym w.has_key.ensures ∙ w.if-has_key.false
        | else-put-via-else-put w ↦ not-seen c.args.members.now c.loop-at.at c.loop-at.buckets c.as_str-key.result.now c.loop-at.invariant.used (λ u. true≢false (sym (c.put.ensures.used.1 u) ∙ w.if-put.false))
      ] in
      grind (arith, common_steps);
  used = used-more c.args.members.now c.loop-at.at c.index-members-at.result c.loop-at.buckets c.put.new.self c.loop-at-test.true c.index-members-at.is c.loop-at.invariant.used
      (rw (← c.as_str-key.ensures) c.put.ensures.put);
}

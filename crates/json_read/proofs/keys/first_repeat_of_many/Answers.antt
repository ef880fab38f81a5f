use Rattle.std.proofs.Common.{sym, ◌∙◌, arith}
use Rattle.std.proofs.lemmas.Grind.{common_steps}
use Rattle.std.proofs.lemmas.Map.Text.{is_eq-slice_cmp}
use Rattle.json_read.proofs.Repeats.{has_key-more}
use Rattle.json_read.proofs.keys.first_repeat_of_many.Goals as goal

pub loop-at-preserved : goal.loop-at-preserved
loop-at-preserved c = record {
  first =
      let no = c.loop-at.invariant.seen c.as_str.result in
      let added = c.in_ok-insert.ensures.added in
      grind (arith, common_steps);
  seen = λ q.
      c.in_ok-insert.ensures.updates.0 q ∙ rw (is_eq-slice_cmp c.as_str.result.now q.now, c.as_str.ensures, c.loop-at.invariant.seen q) (sym (has_key-more c.args.members.now c.loop-at.at c.index-members-at.result q.now c.loop-at-test.true c.index-members-at.is));
}

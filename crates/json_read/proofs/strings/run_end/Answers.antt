use Rattle.json_read.proofs.TextSpans.{plain_copies, copies_more}
use Rattle.json_read.proofs.strings.run_end.Goals as goal

pub run-init : goal.run-init
run-init c = record {
  copies = plain_copies c.args.bytes.now c.args.at c.plain_end-at.result c.plain_end-at.ensures.forward c.plain_end-at.ensures.within c.plain_end-at.ensures.plain;
  all = c.plain_end-at.ensures.all;
}

pub run-preserved : goal.run-preserved
run-preserved c =
    let plain = c.plain_end-at-in-run.ensures in
    let middle = c.in_ok-multibyte_end.field-0 in
    record {
      copies = copies_more c.args.bytes.now c.args.at middle c.plain_end-at-in-run.result
          (copies_more c.args.bytes.now c.args.at c.run.at middle c.run.invariant.copies c.in_ok-multibyte_end.ensures.read)
          (plain_copies c.args.bytes.now middle c.plain_end-at-in-run.result plain.forward plain.within plain.plain);
      all = plain.all;
    }

use Rattle.std.proofs.Common.{refl, arith}
use Rattle.query_text.specs.Machinery.Parts.{IsPlainInQuery}
use Rattle.query_text.proofs.Escaped.{all_of_more}
use Rattle.query_text.proofs.escapes.plain_end.Goals as goal

pub plain-preserved : goal.plain-preserved
plain-preserved c =
    let lt = c.plain-test.true in let low = c.plain.invariant.forward in record {
      forward = omega (arith, low);
      within = omega (arith, lt);
      plain = all_of_more IsPlainInQuery c.args.bytes.now c.args.at c.plain.end _ low lt refl c.plain.invariant.plain (c.if-is_plain.ensures.plain refl);
    }

use Rattle.std.proofs.Common.{refl, arith}
use Rattle.json_tree.specs.Machinery.Tokens.{IsBare}
use Rattle.json_tree.proofs.Escaped.{all_of_more}
use Rattle.json_tree.proofs.pointers.bare_end.Goals as goal

pub bare-preserved : goal.bare-preserved
bare-preserved c =
    let lt = c.bare-test.true in let low = c.bare.invariant.forward in record {
      forward = omega (arith, low);
      within = omega (arith, lt);
      bare = all_of_more IsBare c.args.bytes.now c.args.at c.bare.end _ low lt refl c.bare.invariant.bare (c.if-is_bare.ensures.bare refl);
    }

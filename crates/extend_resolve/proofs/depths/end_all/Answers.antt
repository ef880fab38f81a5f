use Rattle.std.proofs.Common.{◌≡◌, ℕ, ◌<◌, List, length, get_or, refl, arith}
use Rattle.extend_resolve.proofs.Deepening.{grows_trans, all_tried_more}
use Rattle.extend_resolve.proofs.depths.end_all.Goals as goal

pub numbers-preserved : goal.numbers-preserved
numbers-preserved c =
    let first : List ℕ = c.args.ended.now.items in
    let before : List ℕ = c.numbers.ended.items in
    let now : List ℕ = c.end.new.ended.items in
    let low : c.numbers.number-index < length c.args.numbers.now = omega (arith, c.numbers-test.true) in
    record {
      so_far = c.in_ok-end.ensures.so_far;
      grows = grows_trans c.args.links.now first before now c.numbers.invariant.grows c.in_ok-end.ensures.grows;
      tried = all_tried_more c.args.links.now first before now c.args.numbers.now c.numbers.number-index (get_or c.args.numbers.now c.numbers.number-index 0) low refl c.numbers.invariant.grows c.in_ok-end.ensures.grows c.numbers.invariant.tried c.in_ok-end.ensures.tried;
    }

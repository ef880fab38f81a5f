use Rattle.std.proofs.Common.{◌≡◌, ◌+◌, ◌*◌, ap, arith}
use Rattle.query_terms.specs.Machinery.Weights.{weight}
use Rattle.query_terms.proofs.Weights.{positive}
use Rattle.query_text.proofs.pieces.put_parts.Goals as goal

pub returns-in_ok-put_pair-in-Or-clause-load : goal.returns-in_ok-put_pair-in-Or-clause-load
returns-in_ok-put_pair-in-Or-clause-load c =
    let whole : weight c.args.cond.now ≡ 2 * weight c.in-Or.left.value + weight c.in-Or.right.value = ap weight c.in-Or.is in
    let left = ap weight c.deref.ensures in
    let right = ap weight c.deref-in-Or.ensures in
    let some = positive c.in-Or.left.value in
    let pieces = c.in_ok-put_pair-in-Or.ensures.load in
    omega (arith, whole, left, right, some, pieces)

pub returns-in_ok-put_pair-in-And-clause-load : goal.returns-in_ok-put_pair-in-And-clause-load
returns-in_ok-put_pair-in-And-clause-load c =
    let whole : weight c.args.cond.now ≡ 2 * weight c.in-And.left.value + weight c.in-And.right.value = ap weight c.in-And.is in
    let left = ap weight c.deref-in-And.ensures in
    let right = ap weight c.deref-in-And-2.ensures in
    let some = positive c.in-And.left.value in
    let pieces = c.in_ok-put_pair-in-And.ensures.load in
    omega (arith, whole, left, right, some, pieces)

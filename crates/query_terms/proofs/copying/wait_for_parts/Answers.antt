use Rattle.std.proofs.Common.{◌≡◌, ◌+◌, ◌*◌, map, ap, ◌∙◌, arith}
use Rattle.query_terms.specs.Machinery.Weights.{weight, total_weight}
use Rattle.query_terms.proofs.Weights.{positive}
use Rattle.query_terms.proofs.Parts.{now, total_more}
use Rattle.query_terms.proofs.copying.wait_for_parts.Goals as goal

pub returns-in_ok-push-in-Or-2-clause-lighter : goal.returns-in_ok-push-in-Or-2-clause-lighter
returns-in_ok-push-in-Or-2-clause-lighter c =
    let one = ap (λ xs. total_weight (map now xs)) c.in_ok-push-in-Or.ensures.items ∙ total_more c.args.waiting.now.items c.as_ref.result in
    let two = ap (λ xs. total_weight (map now xs)) c.in_ok-push-in-Or-2.ensures.items ∙ total_more c.push.new.self.items c.as_ref-in-Or.result in
    let whole : weight c.args.cond.now ≡ 2 * weight c.in-Or.left.value + weight c.in-Or.right.value = ap weight c.in-Or.is in
    let right = ap weight c.as_ref.ensures in
    let left = ap weight c.as_ref-in-Or.ensures in
    let some = positive c.in-Or.left.value in
    omega (arith, one, two, whole, right, left, some)

pub returns-in_ok-push-in-And-2-clause-lighter : goal.returns-in_ok-push-in-And-2-clause-lighter
returns-in_ok-push-in-And-2-clause-lighter c =
    let one = ap (λ xs. total_weight (map now xs)) c.in_ok-push-in-And.ensures.items ∙ total_more c.args.waiting.now.items c.as_ref-in-And.result in
    let two = ap (λ xs. total_weight (map now xs)) c.in_ok-push-in-And-2.ensures.items ∙ total_more c.push-in-And.new.self.items c.as_ref-in-And-2.result in
    let whole : weight c.args.cond.now ≡ 2 * weight c.in-And.left.value + weight c.in-And.right.value = ap weight c.in-And.is in
    let right = ap weight c.as_ref-in-And.ensures in
    let left = ap weight c.as_ref-in-And-2.ensures in
    let some = positive c.in-And.left.value in
    omega (arith, one, two, whole, right, left, some)

pub returns-in_ok-push-in-Not-clause-lighter : goal.returns-in_ok-push-in-Not-clause-lighter
returns-in_ok-push-in-Not-clause-lighter c =
    let one = ap (λ xs. total_weight (map now xs)) c.in_ok-push-in-Not.ensures.items ∙ total_more c.args.waiting.now.items c.as_ref-in-Not.result in
    let whole : weight c.args.cond.now ≡ weight c.in-Not.inner.value + 1 = ap weight c.in-Not.is in
    let inner = ap weight c.as_ref-in-Not.ensures in
    omega (arith, one, whole, inner)

use Rattle.std.proofs.Common.{◌≡◌, ◌⊎◌, inl, inr, arith, to_z, of_z, w32, ℤ, ℕ, pos, neg_ℤ, ◌≤◌, ◌<◌, ◌^◌, ◌≤ℤ◌, ◌+ℤ◌}
use Rattle.std.proofs.lemmas.Int.{ints}
use Rattle.json_decimal.proofs.Written.{count_below, count_least}
use Rattle.json_decimal.proofs.Sizes.{order_with_zero, order_by_tops, order_aligned}
use Rattle.json_decimal.proofs.order.order_of_sizes.Goals as goal
use Rattle.json_decimal.proofs.order.order_of_sizes.Goals.{then-a-eq0-via-then-a-eq0, then-a-eq0-via-else-a-eq0+then-b-eq0}

pub returns-then-a-eq0 : goal.returns-then-a-eq0
returns-then-a-eq0 c =
    let none : (c.coefficient-a.result ≡ 0) ⊎ (c.coefficient-b.result ≡ 0) = elim c.then-a-eq0.branch [ then-a-eq0-via-then-a-eq0 w ↦ inl w.if-a-eq0.true | then-a-eq0-via-else-a-eq0+then-b-eq0 w ↦ inr w.if-b-eq0.true ] in
    rw (← c.coefficient-a.ensures, ← c.coefficient-b.ensures)
    (order_with_zero c.cmp.result c.coefficient-a.result c.coefficient-b.result _ _ none c.cmp.ensures)

pub order_of_digits-requires-clause-a : goal.order_of_digits-requires-clause-a
order_of_digits-requires-clause-a c =
    let below : c.coefficient-a.result < 10 ^ 38 = rw c.coefficient-a.ensures c.args.left.now.bounded in
    count_below c.coefficient-a.result _ below c.digit_count-count_a.ensures.count

pub order_of_digits-requires-clause-b : goal.order_of_digits-requires-clause-b
order_of_digits-requires-clause-b c =
    let below : c.coefficient-b.result < 10 ^ 38 = rw c.coefficient-b.ensures c.args.right.now.bounded in
    count_below c.coefficient-b.result _ below c.digit_count-count_b.ensures.count

-- the sum of an exponent and a count of digits is exact in 32 bits
exact_top : (e : ℤ) (count : ℕ) → neg_ℤ (pos 900) ≤ℤ e → e ≤ℤ pos 900 → count ≤ 38 → to_z w32 (of_z w32 (to_z w32 (of_z w32 e) +ℤ to_z w32 count)) ≡ e +ℤ pos count
exact_top e count low high few = omega (arith, ints)

pub returns-in-Equal : goal.returns-in-Equal
returns-in-Equal c =
    let l = c.args.left.now in
    let r = c.args.right.now in
    rw (← c.coefficient-a.ensures, ← c.coefficient-b.ensures)
    (order_aligned c.order_of_digits.result c.coefficient-a.result c.coefficient-b.result c.digit_count-count_a.result c.digit_count-count_b.result l.exponent r.exponent _ _
    c.in-Equal.ensures
    (exact_top l.exponent c.digit_count-count_a.result l.least l.most c.digit_count-count_a.ensures.few)
    (exact_top r.exponent c.digit_count-count_b.result r.least r.most c.digit_count-count_b.ensures.few)
    c.order_of_digits.ensures)

pub returns-in_default : goal.returns-in_default
returns-in_default c =
    let l = c.args.left.now in
    let r = c.args.right.now in
    let a = c.coefficient-a.result in
    let b = c.coefficient-b.result in
    let below_a : a < 10 ^ 38 = rw c.coefficient-a.ensures l.bounded in
    let below_b : b < 10 ^ 38 = rw c.coefficient-b.ensures r.bounded in
    rw (← c.coefficient-a.ensures, ← c.coefficient-b.ensures)
    (order_by_tops c.cmp-2.result a b c.digit_count-count_a.result c.digit_count-count_b.result l.exponent r.exponent _ _
    c.cmp-2.ensures c.in_default.not-Equal
    (exact_top l.exponent c.digit_count-count_a.result l.least l.most c.digit_count-count_a.ensures.few)
    (exact_top r.exponent c.digit_count-count_b.result r.least r.most c.digit_count-count_b.ensures.few)
    (count_below a _ below_a c.digit_count-count_a.ensures.count) (count_least a _ below_a c.if-a-eq0.false c.digit_count-count_a.ensures.count) c.digit_count-count_a.ensures.some
    (count_below b _ below_b c.digit_count-count_b.ensures.count) (count_least b _ below_b c.if-b-eq0.false c.digit_count-count_b.ensures.count) c.digit_count-count_b.ensures.some)

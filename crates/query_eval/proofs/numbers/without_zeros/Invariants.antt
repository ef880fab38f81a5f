use Rattle.std.proofs.Common.{◌-◌, ◌≡◌, ◌<◌, ◌≤◌, ℕ, ◌*◌, ◌^◌}
use Rattle.canon_text.specs.Numbers.{without_zeros}
use Rattle.query_eval.proofs.numbers.without_zeros.Given as goal

abbrev pub invariant-zeros : goal.invariant-zeros
invariant-zeros l = (most : ℕ) × (l.digits ≤ most) × (without_zeros most l.digits l.zeros ≡ without_zeros l.fn.size l.fn.size 0)
    × (0 < l.digits) × (l.digits * 10 ^ l.zeros ≡ l.fn.size) × (l.zeros ≤ 19)

abbrev pub decreases-zeros : goal.decreases-zeros
decreases-zeros l = 19 - l.zeros

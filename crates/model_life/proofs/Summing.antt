-- Sums as 64 bits hold them.
use Rattle.std.proofs.Common.{◌≡◌, ℕ, ◌+◌, ◌-◌, ◌^◌, min, ap, ◌∙◌, arith}
use Rattle.model_life.specs.Machinery.Keeping.{capped}

cap_both : (a b m : ℕ) → min (min a m + min b m) m ≡ min (a + b) m
cap_both a b m = omega arith

pub capped_both : (a b x y sum : ℕ) → x ≡ capped a → y ≡ capped b → sum ≡ min (x + y) (2 ^ 64 - 1) → sum ≡ capped (a + b)
capped_both a b x y sum f g is = is ∙ ap (λ z. min (z + y) (2 ^ 64 - 1)) f ∙ ap (λ z. min (capped a + z) (2 ^ 64 - 1)) g ∙ cap_both a b (2 ^ 64 - 1)

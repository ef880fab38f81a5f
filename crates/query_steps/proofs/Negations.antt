-- NOTs one after another.
use Rattle.std.proofs.Common.{◌≡◌, ℕ, suc, ◌+◌, ◌-◌, ◌<◌, ◌≤◌, refl, ap, sym, ◌∙◌, arith}
use Rattle.query_terms.specs.Conditions.{Condition, negated}
use Rattle.query_grammar.specs.Machinery.Steps.{negations}

pub negations_more : (n i : ℕ) (c : Condition) → i < n → negations (n - (i + 1)) (negated c) ≡ negations (n - i) c
negations_more n i c h = let e : n - i ≡ suc (n - (i + 1)) = omega arith in sym (ap (λ (k : ℕ). negations k c) e)

pub negations_all : (n : ℕ) (c : Condition) → negations (n - n) c ≡ c
negations_all n c = let e : n - n ≡ 0 = omega arith in ap (λ (k : ℕ). negations k c) e

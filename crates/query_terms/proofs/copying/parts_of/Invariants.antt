use Rattle.std.proofs.Common.{◌≡◌, [], ◌∷◌, map, Some}
use Rattle.query_terms.specs.Conditions.{condition}
use Rattle.query_terms.specs.Machinery.Weights.{total_weight}
use Rattle.query_terms.specs.Machinery.Parts.{rebuilt, stacked}
use Rattle.query_terms.proofs.copying.parts_of.Given as goal

abbrev pub invariant-waiting : goal.invariant-waiting
invariant-waiting l = rebuilt (map (λ c. c.now) l.parts.items) (stacked (map (λ c. c.now) l.waiting.items)) ≡ Some (condition l.cond ∷ [])

abbrev pub decreases-waiting : goal.decreases-waiting
decreases-waiting l = total_weight (map (λ c. c.now) l.waiting.items)

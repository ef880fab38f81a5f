use Rattle.std.proofs.Common.{◌≡◌, [], ◌∷◌, map, Some, vec_len}
use Rattle.query_terms.specs.Conditions.{condition}
use Rattle.query_terms.specs.Machinery.Parts.{rebuilt, stacked}
use Rattle.query_terms.proofs.cond.Cond.copy.Given as goal

abbrev pub invariant-parts : goal.invariant-parts
invariant-parts l = rebuilt (map (λ c. c.now) l.parts.items) (stacked l.copies.items) ≡ Some (condition l.self ∷ [])

abbrev pub decreases-parts : goal.decreases-parts
decreases-parts l = vec_len l.parts

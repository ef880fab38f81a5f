-- Weights of conditions.
use Rattle.std.proofs.Common.{◌≡◌, ◌+◌, ◌<◌, List, [], ◌∷◌, ◌++◌, arith}
use Rattle.query_terms.specs.declared.cond.Cond as conds
use Rattle.query_terms.specs.declared.cond.Cond.{Cond}
use Rattle.query_terms.specs.Machinery.Weights.{weight, total_weight}

pub positive : (c : Cond) → 0 < weight c
positive (conds.Or' p l q r) = let left = positive l in omega (arith, left)
positive (conds.And' p l q r) = let left = positive l in omega (arith, left)
positive (conds.Not' p c) = omega arith
positive (conds.Compare l compare r) = omega arith
positive (conds.Among operand literals) = omega arith
positive (conds.NotAmong operand literals) = omega arith
positive (conds.Is kind path) = omega arith
positive (conds.Part kind whole part) = omega arith
positive (conds.OfModel twin model exact) = omega arith

pub total_push : (cs : List Cond) (c : Cond) → total_weight (cs ++ c ∷ []) ≡ total_weight cs + weight c
total_push [] c = omega arith
total_push (d ∷ cs) c = let rest = total_push cs c in omega (arith, rest)

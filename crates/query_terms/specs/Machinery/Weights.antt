-- How much is left to do until a condition is let go, or all its parts are named.
use Rattle.std.specs.Prelude.{ℕ, ◌+◌, ◌*◌, List, [], ◌∷◌, Bool, true, false}
use Rattle.query_terms.specs.declared.cond.Cond as conds
use Rattle.query_terms.specs.declared.cond.Cond.{Cond}

-- whether it consists of others
abbrev pub has_parts : Cond → Bool
has_parts (conds.Or' p l q r) = true
has_parts (conds.And' p l q r) = true
has_parts (conds.Not' p c) = true
has_parts (conds.Compare l compare r) = false
has_parts (conds.Among operand literals) = false
has_parts (conds.NotAmong operand literals) = false
has_parts (conds.Is kind path) = false
has_parts (conds.Part kind whole part) = false
has_parts (conds.OfModel twin model exact) = false

-- A left side weighs twice, since it is turned to the right.
abbrev pub weight : Cond → ℕ
weight (conds.Or' p l q r) = 2 * weight l + weight r
weight (conds.And' p l q r) = 2 * weight l + weight r
weight (conds.Not' p c) = weight c + 1
weight (conds.Compare l compare r) = 1
weight (conds.Among operand literals) = 1
weight (conds.NotAmong operand literals) = 1
weight (conds.Is kind path) = 1
weight (conds.Part kind whole part) = 1
weight (conds.OfModel twin model exact) = 1

abbrev pub total_weight : List Cond → ℕ
total_weight [] = 0
total_weight (c ∷ cs) = weight c + total_weight cs

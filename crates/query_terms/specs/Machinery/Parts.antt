-- Conditions from the list of all conditions within them.
use Rattle.std.specs.Prelude.{List, [], ◌∷◌, map, reverse, Option, Some, None}
use Rattle.std.specs.Option.{option_and_then}
use Rattle.query_terms.specs.declared.cond.Cond as conds
use Rattle.query_terms.specs.declared.cond.Cond.{Cond}
use Rattle.query_terms.specs.Conditions.{Condition, either, both, negated, condition}

-- A condition on top of others, from its parts there; nothing where parts are absent.
abbrev pub placed : Cond → List Condition → Option (List Condition)
placed (conds.Or' p l q r) (a ∷ b ∷ cs) = Some (either a b ∷ cs)
placed (conds.Or' p l q r) cs = None
placed (conds.And' p l q r) (a ∷ b ∷ cs) = Some (both a b ∷ cs)
placed (conds.And' p l q r) cs = None
placed (conds.Not' p c) (a ∷ cs) = Some (negated a ∷ cs)
placed (conds.Not' p c) [] = None
placed (conds.Compare l compare r) cs = Some (condition (conds.Compare l compare r) ∷ cs)
placed (conds.Among operand literals) cs = Some (condition (conds.Among operand literals) ∷ cs)
placed (conds.NotAmong operand literals) cs = Some (condition (conds.NotAmong operand literals) ∷ cs)
placed (conds.Is kind path) cs = Some (condition (conds.Is kind path) ∷ cs)
placed (conds.Part kind whole part) cs = Some (condition (conds.Part kind whole part) ∷ cs)
placed (conds.OfModel twin model exact) cs = Some (condition (conds.OfModel twin model exact) ∷ cs)

-- Conditions on top of others, each before its parts.
abbrev pub rebuilt : List Cond → List Condition → Option (List Condition)
rebuilt [] cs = Some cs
rebuilt (c ∷ parts) cs = option_and_then (placed c) (rebuilt parts cs)

-- the last one on top
abbrev pub stacked : List Cond → List Condition
stacked cs = reverse (map condition cs)

-- Conditions, without where they lie in memory.
use Rattle.std.specs.Prelude.{ℕ, List, Bool, Option}
use Rattle.dt_base.specs.names.Grammar.{Identifier}
use Rattle.query_terms.specs.declared.operand.Operand.{Operand}
use Rattle.query_terms.specs.declared.operand.Literal.{Literal}
use Rattle.query_terms.specs.declared.operand.Compare.{Compare}
use Rattle.query_terms.specs.declared.cond.Kind.{Kind}
use Rattle.query_terms.specs.declared.cond.PartKind.{PartKind}
use Rattle.query_terms.specs.declared.cond.Cond as conds
use Rattle.query_terms.specs.declared.cond.Cond.{Cond}

pub data Condition : Type 0 where
  either : Condition → Condition → Condition
  both : Condition → Condition → Condition
  negated : Condition → Condition
  compared : Operand → Compare → Operand → Condition
  among : Operand → List Literal → Condition
  not_among : Operand → List Literal → Condition
  is_kind : Kind → List (List ℕ) → Condition
  has_part : PartKind → Operand → Operand → Condition
  of_model : Option (List ℕ) → Identifier → Bool → Condition

abbrev pub condition : Cond → Condition
condition (conds.Or' p l q r) = either (condition l) (condition r)
condition (conds.And' p l q r) = both (condition l) (condition r)
condition (conds.Not' p c) = negated (condition c)
condition (conds.Compare l compare r) = compared l compare r
condition (conds.Among operand literals) = among operand literals
condition (conds.NotAmong operand literals) = not_among operand literals
condition (conds.Is kind path) = is_kind kind path
condition (conds.Part kind whole part) = has_part kind whole part
condition (conds.OfModel twin model exact) = of_model twin model exact

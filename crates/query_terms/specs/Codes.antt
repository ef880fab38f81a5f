-- Conditions as values by which proofs tell them apart. This serves the types that hold one.
use Rattle.std.specs.Prelude.{◌≡◌, refl}
use Rattle.std.proofs.Common.{ap, ap₂}
use Rattle.std.specs.Coded.{Coded, code_by}
use Rattle.std.specs.declared.alloc.Global.{Global}
use Rattle.std.specs.declared.boxed.Box.{Box}
use denote.RawPtr.{null_ptr}
use Rattle.query_terms.specs.declared.cond.Cond as conds
use Rattle.query_terms.specs.declared.cond.Cond.{Cond}
use Rattle.query_terms.specs.contracts.cond.Cond as cond
use Rattle.query_terms.specs.Conditions.{Condition, either, both, negated, compared, among, not_among, is_kind, has_part, of_model, condition}

abbrev pub nowhere : Box (Unit {0}) Global
nowhere = record { ptr = null_ptr; alloc = record { memory = record { seal = tt } }; value = tt }

-- the condition at no place in memory
abbrev pub stored : Condition → Cond
stored (either l r) = conds.Or' nowhere (stored l) nowhere (stored r)
stored (both l r) = conds.And' nowhere (stored l) nowhere (stored r)
stored (negated c) = conds.Not' nowhere (stored c)
stored (compared l compare r) = conds.Compare l compare r
stored (among operand literals) = conds.Among operand literals
stored (not_among operand literals) = conds.NotAmong operand literals
stored (is_kind kind path) = conds.Is kind path
stored (has_part kind whole part) = conds.Part kind whole part
stored (of_model twin model exact) = conds.OfModel twin model exact

pub stored_back : (c : Condition) → condition (stored c) ≡ c
stored_back (either l r) = ap₂ (λ (a b : Condition). either a b) (stored_back l) (stored_back r)
stored_back (both l r) = ap₂ (λ (a b : Condition). both a b) (stored_back l) (stored_back r)
stored_back (negated c) = ap (λ (a : Condition). negated a) (stored_back c)
stored_back (compared l compare r) = refl
stored_back (among operand literals) = refl
stored_back (not_among operand literals) = refl
stored_back (is_kind kind path) = refl
stored_back (has_part kind whole part) = refl
stored_back (of_model twin model exact) = refl

abbrev pub condition_code : Coded Condition
condition_code = code_by Cond cond.the_row.coded stored condition stored_back

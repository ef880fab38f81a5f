-- Interfaces that documents without breach declare.
use Rattle.std.specs.Prelude.{ℕ, List}
use Rattle.json_decimal.specs.Number.{Number}
use Rattle.json_tree.specs.Values.{object, Members}
use Rattle.json_tree.specs.Grammar.{Spells}
use Rattle.dtdl_terms.specs.Distinct.{HasDeclaration}
use Rattle.dtdl_terms.specs.declared.interface.Interface.{Interface}
use Rattle.local_rules.specs.Breaches.{IsBroken}
use Rattle.local_rules.specs.declared.rule.LocalRule.{LocalRule}
use Rattle.local_rules.specs.Declarations.{DeclaresInterface}
use Rattle.local_rules.specs.Limits.{IsWithinLimits}
use Rattle.local_rules.specs.Typed.{IsTyped}

-- A text spells an object that declares the interface, and no local rule is broken in the object.
pub record IsSoundlyDeclared (i : Interface) : Type 0 where
  pub bytes : List ℕ
  pub members : Members Number
  pub spelled : Spells bytes (object members)
  pub unbroken : (place : List ℕ) (broken : LocalRule) → IsBroken (object members) place broken → ⊥
  pub declares : DeclaresInterface members i

-- An interface that breaks none of the local rules, taken alone: a document without breach declares it. That such an interface
-- has a declaration, is within the limits, and has types that its canonical tree tells, follows (`soundly_declared` of
-- `canon_faults`); it stands beside for who looks at the record alone.
pub record IsSoundInterface (i : Interface) : Type 0 where
  pub declared : IsSoundlyDeclared i
  pub declaration : HasDeclaration i
  pub limits : IsWithinLimits i
  pub typed : IsTyped i

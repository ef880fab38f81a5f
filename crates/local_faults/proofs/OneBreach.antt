-- Of two breaches one comes first, unless they are one.
use Rattle.std.proofs.Common.{◌≡◌, ℕ, ◌<◌, ◌-◌, inl, inr, List, [], ◌∷◌, get_or, refl, sym, ap, ◌∙◌, arith}
use Rattle.json_tree.specs.Values.{Json}
use Rattle.json_tree.proofs.Preorder.{before_cases}
use Rattle.local_rules.specs.Codes.{rule_number}
use Rattle.local_rules.specs.Breaches.{IsFirstBreach}
use Rattle.local_rules.specs.declared.rule.LocalRule.{LocalRule}
use Rattle.local_rules.specs.declared.rule.LocalRule.TheVariants as rule

-- the rules in their order
abbrev rules_in_order : List LocalRule
rules_in_order =
    rule.WrongKind ∷ rule.UnknownKey ∷ rule.MissingKey ∷ rule.BadContext ∷ rule.BadType ∷ rule.BadSemanticType ∷ rule.BadId ∷ rule.ReservedId
    ∷ rule.LongInterfaceId ∷ rule.LongElementId ∷ rule.BadName ∷ rule.LongDisplayName ∷ rule.LongDescription ∷ rule.LongComment ∷ rule.BadLanguage
    ∷ rule.TooManyContents ∷ rule.TooManyParents ∷ rule.RepeatedParent ∷ rule.DuplicateName ∷ rule.TooManyFields ∷ rule.TooManyEnumValues
    ∷ rule.DuplicateField ∷ rule.DuplicateEnumName ∷ rule.DuplicateEnumValue ∷ rule.BadValueSchema ∷ rule.BadEnumValue ∷ rule.BadMapKey
    ∷ rule.BadMultiplicity ∷ rule.BadCommandType ∷ rule.BadUnit ∷ rule.UnknownSchema ∷ rule.RepeatedId ∷ rule.TooDeep ∷ rule.ArrayInProperty ∷ []

numbered : (broken : LocalRule) → get_or rules_in_order (rule_number broken - 1) rule.WrongKind ≡ broken
numbered rule.WrongKind = refl
numbered other = refl

one_rule : (a b : LocalRule) → rule_number a ≡ rule_number b → a ≡ b
one_rule a b e = sym (numbered a) ∙ (ap (λ (n : ℕ). get_or rules_in_order (n - 1) rule.WrongKind) e ∙ numbered b)

neither_less : (m n : ℕ) → (m < n → ⊥) → (n < m → ⊥) → m ≡ n
neither_less m n low high = omega arith

pub one_breach : (document : Json) (place other : List ℕ) (broken another : LocalRule) → IsFirstBreach document place broken → IsFirstBreach document other another
    → (place ≡ other) × (broken ≡ another)
one_breach document place other broken another g h = elim (before_cases place other) [
  | inl same ↦ (
    same,
    one_rule broken another (neither_less (rule_number broken) (rule_number another)
        (λ less. h.least place broken (inr (same, less)) g.breach)
        (λ less. g.least other another (inr (sym same, less)) h.breach)),
  )
  | inr (inl before) ↦ absurd (h.least place broken (inl before) g.breach)
  | inr (inr before) ↦ absurd (g.least other another (inl before) h.breach)
]

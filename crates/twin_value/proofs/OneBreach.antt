-- Of two breaches one comes first, unless they are one.
use Rattle.std.proofs.Common.{◌≡◌, ℕ, ◌<◌, ◌-◌, inl, inr, List, [], ◌∷◌, get_or, refl, sym, ap, ◌∙◌, arith}
use Rattle.json_tree.proofs.Preorder.{before_cases}
use Rattle.twin_value.specs.Codes.{code_number}
use Rattle.twin_value.specs.Breaches.{IsFirstBodyBreach}
use Rattle.twin_value.specs.declared.code.BodyCode.{BodyCode}
use Rattle.twin_value.specs.declared.code.BodyCode.TheVariants as code

-- the codes in their order
abbrev codes_in_order : List BodyCode
codes_in_order = code.WrongKind ∷ code.MissingKey ∷ code.BadId ∷ code.UnknownMember ∷ code.BadValue ∷ code.UnknownRelationship ∷ []

numbered : (broken : BodyCode) → get_or codes_in_order (code_number broken - 1) code.WrongKind ≡ broken
numbered code.WrongKind = refl
numbered other = refl

one_code : (a b : BodyCode) → code_number a ≡ code_number b → a ≡ b
one_code a b e = sym (numbered a) ∙ (ap (λ (n : ℕ). get_or codes_in_order (n - 1) code.WrongKind) e ∙ numbered b)

neither_less : (m n : ℕ) → (m < n → ⊥) → (n < m → ⊥) → m ≡ n
neither_less m n low high = omega arith

pub one_first : (Broken : List ℕ → BodyCode → Type 0) (place other : List ℕ) (broken another : BodyCode) → IsFirstBodyBreach Broken place broken → IsFirstBodyBreach Broken other another
    → (place ≡ other) × (broken ≡ another)
one_first Broken place other broken another g h = elim (before_cases place other) [
  | inl same ↦ (
    same,
    one_code broken another (neither_less (code_number broken) (code_number another)
        (λ less. h.least place broken (inr (same, less)) g.breach)
        (λ less. g.least other another (inr (sym same, less)) h.breach)),
  )
  | inr (inl before) ↦ absurd (h.least place broken (inl before) g.breach)
  | inr (inr before) ↦ absurd (g.least other another (inl before) h.breach)
]

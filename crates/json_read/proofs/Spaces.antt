-- White space, byte by byte.
use Rattle.std.proofs.Common.{◌≡◌, ℕ, List, [], ◌∷◌, ◌++◌, Option, false, nat_eq, ◌⊎◌, inl, inr, refl, ap, sym, subst}
use Rattle.json_tree.specs.Values.{Raw}
use Rattle.json_tree.specs.Grammar.{IsSpace, IsSpaces}
use Rattle.json_read.specs.Machinery.Automaton.{State, spaced}
use Rattle.json_read.specs.Machinery.Remains.{Remains, Follows}
use Rattle.json_tree.proofs.Choices.{choose, chosen, is_byte, no_byte}

pub no_spaces : (from : List ℕ) → IsSpaces from from
no_spaces from = ([], tt, refl)

pub more_spaces : (b : ℕ) (from to : List ℕ) → IsSpace b → IsSpaces from to → IsSpaces (b ∷ from) to
more_spaces b from to h s = (b ∷ s.0, (h, s.1), ap (λ (bs : List ℕ). b ∷ bs) s.2)

pub first_space : (b : ℕ) (from to : List ℕ) → IsSpaces (b ∷ from) to → (IsSpace b × IsSpaces from to) ⊎ (to ≡ b ∷ from)
first_space b from to ([], h, e) = inr (sym e)
first_space b from to (c ∷ spaces, h, e) =
    let first : c ≡ b = cc in
    let others : from ≡ spaces ++ to = cc in
    inl (subst IsSpace first h.0, (spaces, h.1, others))

pub spaces_at_end : (to : List ℕ) → IsSpaces [] to → to ≡ []
spaces_at_end to ([], h, e) = sym e
spaces_at_end to (c ∷ spaces, h, e) = absurd cc

pub no_space : (b : ℕ) → nat_eq b 32 ≡ false → nat_eq b 9 ≡ false → nat_eq b 10 ≡ false → nat_eq b 13 ≡ false → IsSpace b → ⊥
no_space b p q r s (inl e) = no_byte b 32 p e
no_space b p q r s (inr (inl e)) = no_byte b 9 q e
no_space b p q r s (inr (inr (inl e))) = no_byte b 10 r e
no_space b p q r s (inr (inr (inr e))) = no_byte b 13 s e

pub comma_no_space : IsSpace 44 → ⊥
comma_no_space = no_space 44 refl refl refl refl

pub bracket_no_space : IsSpace 93 → ⊥
bracket_no_space = no_space 93 refl refl refl refl

pub brace_no_space : IsSpace 125 → ⊥
brace_no_space = no_space 125 refl refl refl refl

pub colon_no_space : IsSpace 58 → ⊥
colon_no_space = no_space 58 refl refl refl refl

pub quote_no_space : IsSpace 34 → ⊥
quote_no_space = no_space 34 refl refl refl refl

-- up to a mark that is no white space: a byte of it is white space, or it is the mark
pub up_to_space : (b mark : ℕ) (from to : List ℕ) → (IsSpace mark → ⊥) → IsSpace b → IsSpaces (b ∷ from) (mark ∷ to) → IsSpaces from (mark ∷ to)
up_to_space b mark from to m s h = elim (first_space b from (mark ∷ to) h) [
  | inl g ↦ g.1
  | inr e ↦ let same : b ≡ mark = cc in absurd (m (subst IsSpace same s))
]

pub up_to_mark : (b mark : ℕ) (from to : List ℕ) → (IsSpace b → ⊥) → IsSpaces (b ∷ from) (mark ∷ to) → (b ≡ mark) × (from ≡ to)
up_to_mark b mark from to m h = elim (first_space b from (mark ∷ to) h) [
  | inl g ↦ absurd (m g.0)
  | inr e ↦ (cc, cc)
]

pub at_front : (b mark : ℕ) (rest : List ℕ) → b ≡ mark → IsSpaces (b ∷ rest) (mark ∷ rest)
at_front b mark rest e = ([], tt, ap (λ (x : ℕ). x ∷ rest) e)

pub fwd-spaced : (s : State) (b : ℕ) (other : Option State) (rest : List ℕ) (whole : Raw)
    → (IsSpace b → Remains s rest whole) → ((IsSpace b → ⊥) → Follows other rest whole) → Follows (spaced s b other) rest whole
fwd-spaced s b other rest whole p q =
    choose (λ (o : Option State). Follows o rest whole) (nat_eq b 32) _ _ (λ e. p (inl (is_byte b 32 e))) (λ e.
    choose (λ (o : Option State). Follows o rest whole) (nat_eq b 9) _ _ (λ f. p (inr (inl (is_byte b 9 f)))) (λ f.
    choose (λ (o : Option State). Follows o rest whole) (nat_eq b 10) _ _ (λ g. p (inr (inr (inl (is_byte b 10 g))))) (λ g.
    choose (λ (o : Option State). Follows o rest whole) (nat_eq b 13) _ _ (λ h. p (inr (inr (inr (is_byte b 13 h))))) (λ h.
    q (no_space b e f g h)))))

pub back-spaced : (s : State) (b : ℕ) (other : Option State) (rest : List ℕ) (whole : Raw)
    → Follows (spaced s b other) rest whole → (IsSpace b × Remains s rest whole) ⊎ ((IsSpace b → ⊥) × Follows other rest whole)
back-spaced s b other rest whole h =
    elim (chosen (λ (o : Option State). Follows o rest whole) (nat_eq b 32) _ _ h) [
      | inl p ↦ inl (inl (is_byte b 32 p.0), p.1)
      | inr p ↦ elim (chosen (λ (o : Option State). Follows o rest whole) (nat_eq b 9) _ _ p.1) [
        | inl q ↦ inl (inr (inl (is_byte b 9 q.0)), q.1)
        | inr q ↦ elim (chosen (λ (o : Option State). Follows o rest whole) (nat_eq b 10) _ _ q.1) [
          | inl r ↦ inl (inr (inr (inl (is_byte b 10 r.0))), r.1)
          | inr r ↦ elim (chosen (λ (o : Option State). Follows o rest whole) (nat_eq b 13) _ _ r.1) [
            | inl s ↦ inl (inr (inr (inr (is_byte b 13 s.0))), s.1)
            | inr s ↦ inr (no_space b p.0 q.0 r.0 s.0, s.1)
          ]
        ]
      ]
    ]

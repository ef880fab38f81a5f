-- Values of enumerations.
use Rattle.std.proofs.Common.{◌≡◌, ℕ, zero, suc, ◌+◌, ◌<◌, ◌≤◌, ℤ, ◌⊎◌, inl, inr, List, [], ◌∷◌, ◌++◌, length, get_or, take, add-one, Option, Some, sym, ap, subst, ◌∙◌, arith}
use Rattle.std.proofs.Math.Seq.{take-suc}
use Rattle.std.proofs.lemmas.Grind.{common_steps}
use Rattle.std.specs.Option.{IsSomeAnd}
use Rattle.std.proofs.lemmas.List.{take_all}
use Rattle.json_decimal.specs.Number.{Number}
use Rattle.json_decimal.specs.Comparing.{IsWhole}
use Rattle.json_decimal.proofs.Wholes.{one_whole}
use Rattle.json_tree.specs.Values.{Json}
use Rattle.dtdl_terms.specs.declared.enumeration.EnumEntry.{EnumEntry}
use Rattle.twin_value.specs.Fits.{EqualsEnumValue, IsAnyOf}

pub whole_no : (o : Option Number) (n : Number) (z w : ℤ) → Some n ≡ o → IsWhole n z → (z ≡ w → ⊥) → IsSomeAnd o (λ m. IsWhole m w) → ⊥
whole_no o n z w e is other h = other (one_whole n z w is (subst (λ (p : Option Number). IsSomeAnd p (λ m. IsWhole m w)) (sym e) h))

-- ---- one of several
pub any_there : (es : List EnumEntry) (v : Json) (i : ℕ) (e : EnumEntry) → i < length es → e ≡ get_or es i e → EqualsEnumValue e.value v → IsAnyOf es v
any_there [] v i e within is h = absurd (omega (arith, within))
any_there (x ∷ es) v zero e within is h = inl (subst (λ (y : EnumEntry). EqualsEnumValue y.value v) is h)
any_there (x ∷ es) v (suc i) e within is h = inr (any_there es v i e (omega (arith, within)) is h)

any_last : (es : List EnumEntry) (e : EnumEntry) (v : Json) → IsAnyOf (es ++ e ∷ []) v → IsAnyOf es v ⊎ EqualsEnumValue e.value v
any_last [] e v (inl h) = inr h
any_last [] e v (inr h) = absurd h
any_last (x ∷ es) e v (inl h) = inl (inl h)
any_last (x ∷ es) e v (inr h) = elim (any_last es e v h) [ inl g ↦ inl (inr g) | inr g ↦ inr g ]

pub take-more : {X : Type 0} (xs : List X) (i : ℕ) (x : X) → i < length xs → x ≡ get_or xs i x → take (i + 1) xs ≡ take i xs ++ x ∷ []
take-more {X} xs i x within is = ap (λ (n : ℕ). take n xs) (add-one i) ∙ take-suc xs i x within ∙ ap (λ (y : X). take i xs ++ y ∷ []) (sym is)

pub none_more : (es : List EnumEntry) (v : Json) (i : ℕ) (e : EnumEntry) → i < length es → e ≡ get_or es i e → (IsAnyOf (take i es) v → ⊥) → (EqualsEnumValue e.value v → ⊥) → IsAnyOf (take (i + 1) es) v → ⊥
none_more es v i e within is none other h =
    elim (any_last (take i es) e v (subst (λ (l : List EnumEntry). IsAnyOf l v) (take-more es i e within is) h)) [ inl g ↦ none g | inr g ↦ other g ]

pub none_whole : (es : List EnumEntry) (v : Json) (i : ℕ) → length es ≤ i → (IsAnyOf (take i es) v → ⊥) → IsAnyOf es v → ⊥
none_whole es v i past none h = none (subst (λ (l : List EnumEntry). IsAnyOf l v) (sym (take_all i es past)) h)

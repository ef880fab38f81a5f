-- Entries that are legal from one state to another.
use Rattle.std.specs.Prelude.{◌≡◌, List, [], ◌∷◌, ◌++◌}
use Rattle.std.proofs.Common.{subst}

module _ {S E : Type 0} (allowed : S → E → Type 0) (follows : S → E → S) where
  -- Each entry is allowed at its point, when they are taken in order from the first state to the last.
  abbrev pub AreLegal : S → List E → S → Type 0
  AreLegal s [] t = t ≡ s
  AreLegal s (e ∷ es) t = allowed s e × AreLegal (follows s e) es t

  -- One stretch after another. It stands here, since the laws of a service may cite it.
  pub legal_trans : (s t u : S) (es fs : List E) → AreLegal s es t → AreLegal t fs u → AreLegal s (es ++ fs) u
  legal_trans s t u [] fs h k = subst (λ (x : S). AreLegal x fs u) h k
  legal_trans s t u (e ∷ es) fs h k = (h.0, legal_trans (follows s e) t u es fs h.1 k)

-- The first of a list, and the least of all, of which something holds.
use Rattle.std.specs.Prelude.{◌≡◌, ◌⊎◌, List, [], ◌∷◌, Option, Some, None, IsTrue, cond}
use Rattle.std.specs.declared.cmp.Ordering.{Ordering}
use Rattle.std.specs.Ordering.{is_lt}

module _ {X : Type 0} where
  -- the first in the list of which it holds, or that it holds of none
  abbrev pub IsFirstOf : (X → Type 0) → List X → Option X → Type 0
  IsFirstOf Bad [] None = Unit {0}
  IsFirstOf Bad [] (Some y) = ⊥
  IsFirstOf Bad (x ∷ xs) o = ((Bad x → ⊥) × IsFirstOf Bad xs o) ⊎ (Bad x × (o ≡ Some x))

  -- one of which it holds, such that it holds of none before, or that it holds of none
  abbrev pub IsLeastOf : (X → X → Ordering) → (X → Type 0) → Option X → Type 0
  IsLeastOf R Bad None = (x : X) → Bad x → ⊥
  IsLeastOf R Bad (Some y) = Bad y × ((x : X) → Bad x → IsTrue (is_lt (R x y)) → ⊥)

  -- the lesser where there are two, else the one that there is
  abbrev pub lesser : (X → X → Ordering) → Option X → Option X → Option X
  lesser R None b = b
  lesser R (Some a) None = Some a
  lesser R (Some a) (Some b) = Some (cond (is_lt (R b a)) b a)

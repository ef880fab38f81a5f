-- Numbers that are reached by links. The links of each number are a list of numbers.
use Rattle.std.specs.Prelude.{◌≡◌, ◌<◌, ℕ, List, [], ◌∷◌, ◌++◌, Bool, true, false, cond, length, take, get_or, nat_eq}
use Rattle.std.specs.List.{AllByRecursion, IsDistinct, list_any}

abbrev pub IsIn : ℕ → List ℕ → Type 0
IsIn y xs = list_any (nat_eq y) xs ≡ true

abbrev pub links_at : List (List ℕ) → ℕ → List ℕ
links_at links x = get_or links x []

-- behind `x` each number is a link of the one before it
abbrev pub IsWay : List (List ℕ) → ℕ → List ℕ → Type 0
IsWay links x [] = Unit {0}
IsWay links x (y ∷ ys) = IsIn y (links_at links x) × IsWay links y ys

abbrev pub way_end : ℕ → List ℕ → ℕ
way_end x [] = x
way_end x (y ∷ ys) = way_end y ys

-- links lead from `x` to `y`
abbrev pub Arrives : List (List ℕ) → ℕ → ℕ → Type 0
Arrives links x y = (ys : List ℕ) × IsWay links x ys × (way_end x ys ≡ y)

-- each link is one of the numbers
abbrev pub AreLinksWithin : List (List ℕ) → Type 0
AreLinksWithin links = (x y : ℕ) → IsIn y (links_at links x) → y < length links

-- with a number, where it is not there
abbrev pub push_new : List ℕ → ℕ → List ℕ
push_new found y = cond (list_any (nat_eq y) found) found (found ++ y ∷ [])

abbrev pub add_new : List ℕ → List ℕ → List ℕ
add_new found [] = found
add_new found (y ∷ ys) = add_new (push_new found y) ys

-- exactly these numbers are marked
abbrev pub AreMarked : List Bool → List ℕ → Type 0
AreMarked marks found = (y : ℕ) → get_or marks y false ≡ list_any (nat_eq y) found

abbrev pub AreClear : List Bool → Type 0
AreClear marks = (y : ℕ) → get_or marks y false ≡ false

-- the links of each of these numbers are found
abbrev pub AreOpened : List (List ℕ) → List ℕ → List ℕ → Type 0
AreOpened links found xs = AllByRecursion (λ x. (y : ℕ) → IsIn y (links_at links x) → IsIn y found) xs

-- So far each number that was found is reached once, and the links of the first `at` of them are found.
pub record IsOpening (links : List (List ℕ)) (start : ℕ) (found : List ℕ) (at : ℕ) : Type 0 where
  pub begun : IsIn start found
  pub reached : AllByRecursion (Arrives links start) found
  pub distinct : IsDistinct nat_eq found
  pub below : AllByRecursion (λ y. y < length links) found
  pub opened : AreOpened links found (take at found)

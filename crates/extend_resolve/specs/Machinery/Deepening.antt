-- How many steps lead on from each number, as it is found out: that of a number is told once those of all its links are.
use Rattle.std.specs.Prelude.{◌≡◌, ◌<◌, ℕ, ◌+◌, ◌-◌, ◌^◌, List, [], ◌∷◌, ◌++◌, Bool, false, length, max, get_or, slice_set, nat_eq, Option, Some, None, IsSome}
use Rattle.std.specs.Option.{option_and_then}
use Rattle.std.specs.List.{AllByRecursion, IsDistinct, list_any}
use Rattle.extend_resolve.specs.Machinery.Links.{IsIn, links_at}
use Rattle.extend_resolve.specs.Machinery.Worlds.{DepthAt}

-- the most of a number and one step more than each of these; none where one is not told
abbrev pub depth_over : List (Option ℕ) → ℕ → List ℕ → Option ℕ
depth_over depths most [] = Some most
depth_over depths most (y ∷ ys) = option_and_then (λ d. depth_over depths (max most (d + 1)) ys) (get_or depths y None)

-- one more step can be counted
abbrev pub AreSmall : List (Option ℕ) → Type 0
AreSmall depths = (y d : ℕ) → get_or depths y None ≡ Some d → d < 2 ^ 64 - 1

abbrev pub IsOut : ℕ → List ℕ → Type 0
IsOut y xs = list_any (nat_eq y) xs ≡ false

-- So far the steps of these numbers are told, each once, and rightly.
pub record IsDeepening (links : List (List ℕ)) (depths : List (Option ℕ)) (ended : List ℕ) : Type 0 where
  pub same : length depths ≡ length links
  pub right : (x d : ℕ) → get_or depths x None ≡ Some d → DepthAt links x (Some d) × (d < length ended) × IsIn x ended
  pub told : (x : ℕ) → IsIn x ended → IsSome (get_or depths x None)
  pub distinct : IsDistinct nat_eq ended

abbrev pub Grows : List ℕ → List ℕ → Type 0
Grows before now = (more : List ℕ) × (now ≡ before ++ more)

-- where the steps of `x` are not told, a link of it is none of those that are done
abbrev pub IsTried : List (List ℕ) → List ℕ → List ℕ → ℕ → Type 0
IsTried links done ended x = IsOut x ended → (y : ℕ) × IsIn y (links_at links x) × IsOut y done

-- ---- the links turned round
abbrev pub with_child : List (List ℕ) → ℕ → List ℕ → List (List ℕ)
with_child children child [] = children
with_child children child (y ∷ ys) = with_child (slice_set children y (links_at children y ++ child ∷ [])) child ys

-- the links of the first `at` lead back, to numbers below a bound
pub record LeadBack (links children : List (List ℕ)) (at : ℕ) : Type 0 where
  pub same : length children ≡ length links
  pub below : (y x : ℕ) → IsIn x (links_at children y) → x < length links
  pub back : (x y : ℕ) → x < at → IsIn y (links_at links x) → IsIn x (links_at children y)

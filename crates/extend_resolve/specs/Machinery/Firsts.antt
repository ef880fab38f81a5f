-- The first of the breaches of one interface.
use Rattle.std.specs.Prelude.{◌≡◌, ◌≢◌, ◌⊎◌, ℕ, List, [], ◌∷◌, Bool, cond, Option, Some, None}
use Rattle.std.specs.declared.cmp.Ordering.{Ordering}
use Rattle.std.specs.declared.cmp.Ordering.TheVariants.{Greater}
use Rattle.std.specs.Ordering.{nat_cmp, ordering_then, is_gt}
use Rattle.std.specs.Cmp.Lexicographic.{slice_cmp}
use Rattle.dtdl_terms.specs.declared.spot.Spot.{Spot}
use Rattle.dtdl_terms.specs.declared.uploaded.Uploaded.{Uploaded}
use Rattle.extend_resolve.specs.Breaches.{set_rule_number, place_in}
use Rattle.extend_resolve.specs.declared.first.Found.{Found}
use Rattle.extend_resolve.specs.declared.rule.SetRule.{SetRule}

-- where a place stands, as it is compared: nothing for the whole, else the ordinal of a member and maybe a position in it
abbrev pub place_key : Option (ℕ × Option ℕ) → List ℕ
place_key None = []
place_key (Some (at, None)) = at ∷ []
place_key (Some (at, Some k)) = at ∷ k ∷ []

abbrev pub found_cmp : Uploaded → Found → Found → Ordering
found_cmp u f g = ordering_then (slice_cmp nat_cmp (place_in u f.spot) (place_in u g.spot)) (nat_cmp (set_rule_number f.rule) (set_rule_number g.rule))

-- the lesser of two
abbrev pub earlier_of : Uploaded → Option Found → Option Found → Option Found
earlier_of u None g = g
earlier_of u (Some f) None = Some f
earlier_of u (Some f) (Some g) = cond (is_gt (found_cmp u f g)) (Some g) (Some f)

-- a rule that is broken at a place, where it is
abbrev pub found_if : Bool → SetRule → Spot → Option Found
found_if broken rule spot = cond broken (Some (record { spot = spot; rule = rule })) None

-- The first of some breaches of one interface, by place and rule; none where there is none.
abbrev pub IsLeastFound : Uploaded → (SetRule → Spot → Type 0) → Option Found → Type 0
IsLeastFound u P None = (r : SetRule) (s : Spot) → P r s → ⊥
IsLeastFound u P (Some f) = P f.rule f.spot × ((r : SetRule) (s : Spot) → P r s → found_cmp u f (record { spot = s; rule = r }) ≢ Greater)

-- those of them at one place
abbrev pub AtSpot : (SetRule → Spot → Type 0) → Spot → SetRule → Spot → Type 0
AtSpot P t r s = (s ≡ t) × P r s

-- The breaches of the rules on sets, and the first of them.
use Rattle.std.specs.Prelude.{◌≡◌, ◌≢◌, ◌<◌, ◌≤◌, ℕ, List, [], ◌∷◌, Bool, true, false, Option, Some, None, map, take, length, slice_get, codes}
use Rattle.std.specs.Option.{unwrap_or}
use Rattle.std.specs.declared.cmp.Ordering.{Ordering}
use Rattle.std.specs.declared.cmp.Ordering.TheVariants.{Greater}
use Rattle.std.specs.Ordering.{nat_cmp, ordering_then}
use Rattle.std.specs.Cmp.Lexicographic.{slice_cmp}
use Rattle.dtdl_terms.specs.declared.interface.Interface.{Interface}
use Rattle.dtdl_terms.specs.declared.spot.Spot.{Spot}
use Rattle.dtdl_terms.specs.declared.spot.Spot.TheVariants as spots
use Rattle.dtdl_terms.specs.declared.uploaded.Uploaded.{Uploaded}
use Rattle.extend_resolve.specs.SetRules.{together, RepeatsId, LacksParent, LacksComponent, IsInCycle, IsLongChain, HasNameClash, HasComponentInComponent, HasTooManyContents}
use Rattle.extend_resolve.specs.declared.end.SetEnd.{SetEnd}
use Rattle.extend_resolve.specs.declared.end.SetEnd.TheVariants as ends
use Rattle.extend_resolve.specs.declared.rule.SetRule.{SetRule}
use Rattle.extend_resolve.specs.declared.rule.SetRule.TheVariants as rules

-- the codes of the rules, as they are printed
abbrev pub set_rule_code : SetRule → List ℕ
set_rule_code rules.RepeatedId = codes "RepeatedId"
set_rule_code rules.AbsentReference = codes "AbsentReference"
set_rule_code rules.Cycle = codes "Cycle"
set_rule_code rules.LongChain = codes "LongChain"
set_rule_code rules.NameClash = codes "NameClash"
set_rule_code rules.ComponentInComponent = codes "ComponentInComponent"
set_rule_code rules.TooManyResolved = codes "TooManyResolved"

-- the order of the rules at one place
abbrev pub set_rule_number : SetRule → ℕ
set_rule_number rules.RepeatedId = 1
set_rule_number rules.AbsentReference = 2
set_rule_number rules.Cycle = 3
set_rule_number rules.LongChain = 4
set_rule_number rules.NameClash = 5
set_rule_number rules.ComponentInComponent = 6
set_rule_number rules.TooManyResolved = 7

-- an interface of a set, with those that came before it, breaks a rule at a place
abbrev pub BreaksSetRule : List Interface → List Interface → Interface → SetRule → Spot → Type 0
BreaksSetRule set earlier i rules.RepeatedId spots.Id = RepeatsId earlier i
BreaksSetRule set earlier i rules.RepeatedId other = ⊥
BreaksSetRule set earlier i rules.AbsentReference (spots.Parent k) = LacksParent set i k
BreaksSetRule set earlier i rules.AbsentReference (spots.ContentSchema k) = LacksComponent set i k
BreaksSetRule set earlier i rules.AbsentReference other = ⊥
BreaksSetRule set earlier i rules.Cycle (spots.Parent k) = IsInCycle set i k
BreaksSetRule set earlier i rules.Cycle other = ⊥
BreaksSetRule set earlier i rules.LongChain spots.Parents = IsLongChain set i
BreaksSetRule set earlier i rules.LongChain other = ⊥
BreaksSetRule set earlier i rules.NameClash (spots.Parent k) = HasNameClash set i k
BreaksSetRule set earlier i rules.NameClash other = ⊥
BreaksSetRule set earlier i rules.ComponentInComponent (spots.ContentSchema k) = HasComponentInComponent set i k
BreaksSetRule set earlier i rules.ComponentInComponent other = ⊥
BreaksSetRule set earlier i rules.TooManyResolved spots.Whole = HasTooManyContents set i
BreaksSetRule set earlier i rules.TooManyResolved other = ⊥

-- The new interface at a position breaks a rule at a place.
abbrev pub BreaksAt : List Interface → List Uploaded → ℕ → SetRule → Spot → Type 0
BreaksAt set new index rule spot =
    (u : Uploaded) × (slice_get new index ≡ Some u) × BreaksSetRule (together set new) (map (λ v. v.interface) (take index new)) u.interface rule spot

-- a set of which no interface breaks a rule
abbrev pub BreaksNoRule : List Interface → Type 0
BreaksNoRule set = (k : ℕ) (i : Interface) (rule : SetRule) (spot : Spot) → slice_get set k ≡ Some i → BreaksSetRule set (take k set) i rule spot → ⊥

-- ---- the order of breaches
-- Where a place of an interface stands in its text: none of a member's ordinals for the whole, which comes first, and
-- then the ordinal of the member and the position in it.
abbrev pub parent_place : Bool → ℕ → ℕ → List ℕ
parent_place true at k = at ∷ []
parent_place false at k = at ∷ k ∷ []

abbrev pub place_in : Uploaded → Spot → List ℕ
place_in u spots.Whole = []
place_in u spots.Id = u.id_at ∷ []
place_in u spots.Parents = unwrap_or u.parents_at 0 ∷ []
place_in u (spots.Parent k) = parent_place u.parents_as_text (unwrap_or u.parents_at 0) k
place_in u (spots.ContentSchema k) = unwrap_or u.contents_at 0 ∷ k ∷ []

-- the same behind the position of the interface
abbrev pub place_of : Option Uploaded → Spot → List ℕ
place_of None spot = []
place_of (Some u) spot = place_in u spot

abbrev pub place_at : List Uploaded → ℕ → Spot → List ℕ
place_at new index spot = index ∷ place_of (slice_get new index) spot

-- by position, place and rule
pub record Breach : Type 0 where
  pub index : ℕ
  pub rule : SetRule
  pub spot : Spot

abbrev pub breach_cmp : List Uploaded → Breach → Breach → Ordering
breach_cmp new b c = ordering_then (slice_cmp nat_cmp (place_at new b.index b.spot) (place_at new c.index c.spot)) (nat_cmp (set_rule_number b.rule) (set_rule_number c.rule))

abbrev pub IsSetBreach : List Interface → List Uploaded → Breach → Type 0
IsSetBreach set new b = BreaksAt set new b.index b.rule b.spot

-- a breach before which there is no other
pub record IsFirstSetBreach (set : List Interface) (new : List Uploaded) (b : Breach) : Type 0 where
  pub breach : IsSetBreach set new b
  pub least : (c : Breach) → IsSetBreach set new c → breach_cmp new b c ≢ Greater

-- None of the new interfaces breaks a rule.
abbrev pub IsSound : List Interface → List Uploaded → Type 0
IsSound set new = (b : Breach) → IsSetBreach set new b → ⊥

-- the sets for which a judgement answers each end; want of memory may come at any
abbrev pub RefusesSet : List Interface → List Uploaded → SetEnd → Type 0
RefusesSet set new (ends.Fault index spot rule) = IsFirstSetBreach set new (record { index = index; rule = rule; spot = spot })
RefusesSet set new ends.OutOfMemory = Unit {0}

-- What the ordinals of an interface's members tell, by which its places are told apart: those of `extends` and
-- `contents` differ, and a text alone names one parent.
pub record HasOrdinals (u : Uploaded) : Type 0 where
  pub apart : 0 < length u.interface.parents → 0 < length u.interface.contents → unwrap_or u.parents_at 0 ≢ unwrap_or u.contents_at 0
  pub alone : u.parents_as_text ≡ true → length u.interface.parents ≤ 1

-- What is known while the new interfaces are judged one after another.
use Rattle.std.specs.Prelude.{◌≡◌, ◌↔◌, ◌<◌, ◌⊎◌, ℕ, List, [], Bool, true, false, cond, ◌&&◌, map, length, take, get_or, nat_eq, nat_lt, not, Option, Some, None, slice_get}
use Rattle.std.specs.List.{IsDistinct, list_any, sum_by}
use Rattle.dt_base.specs.names.Grammar.{Identifier}
use Rattle.dtdl_terms.specs.declared.interface.Interface.{Interface}
use Rattle.dtdl_terms.specs.declared.spot.Spot.{Spot}
use Rattle.dtdl_terms.specs.declared.uploaded.Uploaded.{Uploaded}
use Rattle.extend_resolve.specs.declared.first.Found.{Found}
use Rattle.extend_resolve.specs.declared.judge.Judge.{Judge}
use Rattle.extend_resolve.specs.declared.judge.Scratch.{Scratch}
use Rattle.extend_resolve.specs.declared.rule.SetRule.{SetRule}
use Rattle.dtdl_terms.specs.declared.spot.Spot.TheVariants as spots
use Rattle.extend_resolve.specs.declared.owners.Owner.{Owner}
use Rattle.extend_resolve.specs.Breaches.{BreaksSetRule, IsSound, IsFirstSetBreach}
use Rattle.extend_resolve.specs.Machinery.Firsts.{AtSpot}
use Rattle.extend_resolve.specs.SetRules.{together, NamesParent}
use Rattle.extend_resolve.specs.Machinery.Links.{IsIn, links_at, Arrives, AreClear}
use Rattle.extend_resolve.specs.Machinery.Names.{IsNaming}
use Rattle.extend_resolve.specs.Machinery.Numbers.{kept_at}
use Rattle.extend_resolve.specs.Machinery.Owners.{AreFresh, Knows}
use Rattle.extend_resolve.specs.Machinery.Worlds.{IsWorld, AreDepths}

abbrev pub nodes_in : Judge → List Interface
nodes_in j = map (λ n. n.now) j.world.nodes.items

abbrev pub judged_set : Judge → List Interface
judged_set j = together j.set.now j.new.now

pub record IsJudge (j : Judge) : Type 0 where
  pub world : IsWorld (judged_set j) (map (λ u. u.interface) j.new.now) (nodes_in j) j.world.numbers.entries j.world.links.items j.world.composed.items
  pub names : IsNaming (nodes_in j) j.names.declared.items j.names.bound
  pub depths : AreDepths j.world.links.items j.depths.items

-- the interface at this position is judged
pub record IsJudging (j : Judge) (index : ℕ) (u : Uploaded) : Type 0 where
  pub judge : IsJudge j
  pub at : slice_get j.new.now index ≡ Some u

-- what it breaks
abbrev pub Broken : Judge → ℕ → Uploaded → SetRule → Spot → Type 0
Broken j index u rule spot = BreaksSetRule (judged_set j) (map (λ v. v.interface) (take index j.new.now)) u.interface rule spot

-- those of its parents before a position, or of its contents
abbrev pub OfParents : (SetRule → Spot → Type 0) → ℕ → SetRule → Spot → Type 0
OfParents P n r s = (l : ℕ) × (l < n) × AtSpot P (spots.Parent l) r s

abbrev pub OfContents : (SetRule → Spot → Type 0) → ℕ → SetRule → Spot → Type 0
OfContents P n r s = (l : ℕ) × (l < n) × AtSpot P (spots.ContentSchema l) r s

-- what links lead to from a number, each once
pub record AreBehind (links : List (List ℕ)) (x : ℕ) (found : List ℕ) : Type 0 where
  pub each : (y : ℕ) → IsIn y found ↔ Arrives links x y
  pub distinct : IsDistinct nat_eq found

-- ---- contents that are counted
abbrev pub counts : Option Interface → ℕ
counts None = 0
counts (Some i) = length i.contents

-- what stands for its identifier in its place does not count
abbrev pub is_rest_of : ℕ → Option ℕ → ℕ → Bool
is_rest_of index None y = not (nat_eq y index)
is_rest_of index (Some own) y = not (nat_eq y index) && not (nat_eq y own)

abbrev pub counted_rest : List Interface → ℕ → Option ℕ → List ℕ → ℕ
counted_rest nodes index own ys = sum_by (λ y. cond (is_rest_of index own y) (counts (slice_get nodes y)) 0) ys

-- ---- other tests on numbers
abbrev pub is_other_than : ℕ → Option ℕ → Bool
is_other_than index None = true
is_other_than index (Some own) = not (nat_eq own index)

abbrev pub holds_number : List ℕ → Option ℕ → Bool
holds_number ys None = false
holds_number ys (Some own) = list_any (nat_eq own) ys

abbrev pub is_over_most : Option ℕ → Bool
is_over_most None = false
is_over_most (Some d) = nat_lt 10 d

abbrev pub is_long_at : Option ℕ → ℕ → Option ℕ → List ℕ → Bool
is_long_at depth index own ys = is_over_most depth && not (is_other_than index own && holds_number ys own)

-- ---- parents
-- these are the numbers behind the parent at a position
pub record IsReached (numbers : List (Identifier × ℕ)) (links : List (List ℕ)) (i : Interface) (k : ℕ) (reached : List ℕ) : Type 0 where
  pub id : Identifier
  pub number : ℕ
  pub named : NamesParent i k id
  pub kept : kept_at id numbers ≡ Some number
  pub each : (y : ℕ) → IsIn y reached ↔ Arrives links number y

-- the parent at a position leads to a number
abbrev pub ParentLeadsTo : List (Identifier × ℕ) → List (List ℕ) → Interface → ℕ → ℕ → Type 0
ParentLeadsTo numbers links i k y = (p : Identifier) × (x : ℕ) × NamesParent i k p × (kept_at p numbers ≡ Some x) × Arrives links x y

-- Which interfaces own a name: the judged one, and those behind the parents before a position.
abbrev pub Owns : List (Identifier × ℕ) → List (List ℕ) → List (List ℕ) → ℕ → Interface → ℕ → ℕ → ℕ → Type 0
Owns numbers links declared index i k name owner =
    ((kept_at i.id numbers ≡ Some owner) × IsIn name (links_at declared index))
    ⊎ ((l : ℕ) × (l < k) × ParentLeadsTo numbers links i l owner × IsIn name (links_at declared owner))

abbrev pub KnowsOwners : Judge → List Owner → ℕ → Uploaded → ℕ → Type 0
KnowsOwners j owners index u k = Knows owners index (Owns j.world.numbers.entries j.world.links.items j.names.declared.items index u.interface k)

-- ---- components
-- what was found out of components behind numbers
abbrev pub ReachesComponent : List (List ℕ) → List Bool → ℕ → Type 0
ReachesComponent links composed x = (y : ℕ) × Arrives links x y × (get_or composed y false ≡ true)

abbrev pub AreComposed : List (List ℕ) → List Bool → List (Option Bool) → Type 0
AreComposed links composed known = (x : ℕ) (b : Bool) → get_or known x None ≡ Some b → (b ≡ true) ↔ ReachesComponent links composed x

-- before the interface at this position is judged
pub record IsReady (j : Judge) (s : Scratch) (index : ℕ) : Type 0 where
  pub marks : AreClear s.marks.items
  pub marks_length : length s.marks.items ≡ length j.world.links.items
  pub owners_length : length s.owners.items ≡ j.names.bound
  pub fresh : AreFresh s.owners.items index (length j.new.now)
  pub composed_length : length s.composed.items ≡ length j.world.links.items
  pub composed : AreComposed j.world.links.items j.world.composed.items s.composed.items

-- The first breach of all, or none where there is none.
abbrev pub FindsFirstSetBreach : List Interface → List Uploaded → Option (ℕ × Found) → Type 0
FindsFirstSetBreach set new None = IsSound set new
FindsFirstSetBreach set new (Some (index, found)) = IsFirstSetBreach set new (record { index = index; rule = found.rule; spot = found.spot })

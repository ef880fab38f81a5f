-- The rows of a query, in the words of its language: which tuples of twins and relationships of a graph are its rows (after the
-- query language of Azure Digital Twins).
use Rattle.std.specs.Prelude.{◌≡◌, ℕ, List, [], ◌∷◌, ◌++◌, Bool, true, false, Option, Some, None, IsTrue, Contains}
use Rattle.std.specs.List.Sorted.{IsStrictlySortedBy}
use Rattle.std.specs.Ordering.{nat_cmp}
use Rattle.std.specs.Cmp.Lexicographic.{slice_cmp}
use Rattle.query_terms.specs.Conditions.{Condition}
use Rattle.query_terms.specs.Queries.{Asked}
use Rattle.query_terms.specs.declared.query.Join.{Join}
use Rattle.graph_steps.specs.Conditions.{Bound, Row, bound_to, holds, link, twin}
use Rattle.graph_steps.specs.QueryAsks.{bound}
use Rattle.graph_steps.specs.States.{State, Twin, Link}

-- Keys ascend, compared id by id, so that no two are one.
abbrev pub KeysAscend : List (List (List ℕ)) → Type 0
KeysAscend keys = IsStrictlySortedBy (slice_cmp (slice_cmp nat_cmp)) keys

-- ---- joins
-- What a JOIN finds: a relationship and its target twin.
pub record Joined : Type 0 where
  pub rel : Link
  pub target : Twin

-- The relationship is one of the graph with the name of the JOIN, out of the twin that the alias before its name is bound to, and
-- leads to the target, a twin of the graph.
pub record MeetsJoin (s : State) (earlier : List Bound) (j : Join) (found : Joined) : Type 0 where
  pub stands : Contains s.links found.rel
  pub named : found.rel.name ≡ j.name
  pub source : Twin
  pub bound : bound_to j.from earlier ≡ Some (twin source)
  pub leaves : found.rel.source ≡ source.id
  pub there : Contains s.twins found.target
  pub leads : found.rel.target ≡ found.target.id

-- The relationship is bound to its alias, if it has one, and the target to its own.
abbrev pub bound_by : Join → Joined → List Bound
bound_by j found = bound j.rel (link found.rel) ∷ bound (Some j.target) (twin found.target) ∷ []

-- Each JOIN in turn is met, by an alias that those before it or FROM bind.
abbrev pub MeetsJoins : State → List Bound → List Join → List Joined → Type 0
MeetsJoins s earlier [] [] = Unit {0}
MeetsJoins s earlier [] (found ∷ more) = ⊥
MeetsJoins s earlier (j ∷ js) [] = ⊥
MeetsJoins s earlier (j ∷ js) (found ∷ more) = MeetsJoin s earlier j found × MeetsJoins s (earlier ++ bound_by j found) js more

-- ---- rows
-- The ids of all that JOINs find, and all that they bind.
abbrev pub joined_ids : List Joined → List (List ℕ)
joined_ids [] = []
joined_ids (found ∷ more) = found.rel.id ∷ found.target.id ∷ joined_ids more

abbrev pub all_bound_by : List Join → List Joined → List Bound
all_bound_by [] found = []
all_bound_by (j ∷ js) [] = []
all_bound_by (j ∷ js) (found ∷ more) = bound_by j found ++ all_bound_by js more

-- A row of twins: a twin of the graph, bound to the alias of FROM, and what each JOIN in turn finds.
pub record IsTwinRow (s : State) (q : Asked) (row : Row) : Type 0 where
  pub first : Twin
  pub joined : List Joined
  pub stands : Contains s.twins first
  pub meets : MeetsJoins s (bound q.alias (twin first) ∷ []) q.joins joined
  pub key : row.key ≡ first.id ∷ joined_ids joined
  pub bindings : row.bound ≡ bound q.alias (twin first) ∷ all_bound_by q.joins joined

-- A row of relationships: one of the graph, bound to the alias of FROM.
pub record IsLinkRow (s : State) (q : Asked) (row : Row) : Type 0 where
  pub rel : Link
  pub stands : Contains s.links rel
  pub key : row.key ≡ rel.source ∷ rel.id ∷ []
  pub bindings : row.bound ≡ bound q.alias (link rel) ∷ []

-- A row of a query over relationships, or over twins.
abbrev pub IsRowOver : Bool → State → Asked → Row → Type 0
IsRowOver true s q row = IsLinkRow s q row
IsRowOver false s q row = IsTwinRow s q row

abbrev pub IsRow : State → Asked → Row → Type 0
IsRow s q row = IsRowOver q.relationships s q row

-- The condition of WHERE holds of the row, or there is none.
abbrev pub Fulfils : State → Option Condition → Row → Type 0
Fulfils s None row = Unit {0}
Fulfils s (Some c) row = IsTrue (holds s row c)

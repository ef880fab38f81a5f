-- Which names are bound, and where one is bound twice or used though it is not.
--
-- FROM binds its alias, and each JOIN the alias of its target and that of its relationship, if it has one; each from its
-- place on. Where FROM has an alias, the first name of every path must be one of these. Where it has none, paths begin at
-- FROM's element. The name before the point of a JOIN must be FROM's twin or the target of an earlier JOIN, and where FROM
-- has no alias it is never bound. The name in a test for a model must be FROM's twin or a target; a test without one speaks
-- of FROM's twin. With RELATIONSHIPS no twin is bound.
use Rattle.std.specs.Prelude.{ℕ, ◌≤◌, List, [], ◌∷◌, ◌++◌, length, Bool, false, not, ◌||◌, ◌&&◌, Option, Some, None, is_some, is_none, take, bytes_eq, if◌then◌else◌, Contains}
use Rattle.std.specs.List.{list_any}
use Rattle.query_terms.specs.Queries.{Asked}
use Rattle.query_terms.specs.declared.query.Join.{Join}
use Rattle.query_grammar.specs.declared.names.Notes.{Notes}
use Rattle.query_grammar.specs.declared.names.Use.{Use}
use Rattle.query_grammar.specs.declared.names.Referent.{Referent}
use Rattle.query_grammar.specs.declared.names.Referent.TheVariants as referents
use Rattle.query_grammar.specs.Phrases.{PlacedName}

-- Names are told apart letter by letter, capitals too.
abbrev pub is_name_among : List PlacedName → List ℕ → Bool
is_name_among names name = list_any (λ (n : PlacedName). bytes_eq n.1 name) names

abbrev pub is_target : List Join → List ℕ → Bool
is_target joins name = list_any (λ (j : Join). bytes_eq j.target name) joins

-- The alias is there and the name.
abbrev pub is_source_alias : Option (List ℕ) → List ℕ → Bool
is_source_alias (Some alias) name = bytes_eq alias name
is_source_alias None name = false

-- A twin is bound to the name by FROM or by one of so many joins.
abbrev pub is_twin : Asked → ℕ → List ℕ → Bool
is_twin q joins name = not q.relationships && (is_source_alias q.alias name || is_target (take joins q.joins) name)

abbrev pub is_bound_as : Asked → List PlacedName → Referent → List ℕ → Bool
is_bound_as q aliases referents.Path name = is_none q.alias || is_name_among aliases name
is_bound_as q aliases (referents.Source before) name = is_some q.alias && is_twin q before name
is_bound_as q aliases referents.Model name = is_twin q (length q.joins) name
is_bound_as q aliases referents.Bare name = not q.relationships

abbrev pub is_bound : Asked → List PlacedName → Use → Bool
is_bound q aliases u = is_bound_as q aliases u.referent u.placed.1

-- ---- the bytes of faults
abbrev pub place_if : Bool → ℕ → List ℕ
place_if holds at = if holds then at ∷ [] else []

-- The bytes of these names that stand among those before them, where `before` are earlier still.
abbrev pub repeats_behind : List PlacedName → List PlacedName → List ℕ
repeats_behind before [] = []
repeats_behind before (n ∷ names) = place_if (is_name_among before n.1) n.0 ++ repeats_behind (before ++ n ∷ []) names

-- The bytes of aliases that are those of an earlier FROM or JOIN, and of the names of items that are those of earlier ones.
abbrev pub repeated_places : Notes → List ℕ
repeated_places n = repeats_behind [] n.aliases ++ repeats_behind [] n.outputs

-- The bytes of uses that are not bound.
abbrev pub unbound_uses : Asked → List PlacedName → List Use → List ℕ
unbound_uses q aliases [] = []
unbound_uses q aliases (u ∷ us) = place_if (not (is_bound q aliases u)) u.placed.0 ++ unbound_uses q aliases us

abbrev pub unbound : Asked → Notes → List ℕ
unbound q n = unbound_uses q n.aliases n.uses

pub record IsLeastPlace (bytes : List ℕ) (at : ℕ) : Type 0 where
  pub one : Contains bytes at
  pub least : (b : ℕ) → Contains bytes b → at ≤ b

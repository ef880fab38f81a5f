-- Which texts are queries.
use Rattle.std.specs.Prelude.{◌≡◌, ℕ, ◌<◌, ◌≤◌, List, [], length, Bool, true, false, IsTrue}
use Rattle.query_terms.specs.Queries.{Asked}
use Rattle.query_terms.specs.declared.query.Projection.{Projection}
use Rattle.query_terms.specs.declared.query.Projection.TheVariants as projections
use Rattle.query_grammar.specs.declared.names.Notes.{Notes}
use Rattle.query_grammar.specs.Texts.{IsQueryText}
use Rattle.query_grammar.specs.Bindings.{repeated_places, unbound}

abbrev pub is_star : Projection → Bool
is_star (projections.Star top) = true
is_star other = false

-- Rows are given whole, and there is a join.
abbrev pub IsStarWithJoin : Asked → Type 0
IsStarWithJoin q = IsTrue (is_star q.select) × (0 < length q.joins)

-- The text is short enough and a query by the grammar, of which this holds.
abbrev pub ReadsQuery : List ℕ → (Asked → Notes → Type 0) → Type 0
ReadsQuery text P = (length text ≤ 8192) × ((q : Asked) × ((n : Notes) × IsQueryText text (q, n) × P q n))

-- The text is a query that asks for this, and is refused for nothing.
abbrev pub SpellsQuery : List ℕ → Asked → Type 0
SpellsQuery text asked =
    ReadsQuery text (λ q n. (length q.joins ≤ 5) × (IsStarWithJoin q → ⊥) × (repeated_places n ≡ []) × (unbound q n ≡ []) × (q ≡ asked))

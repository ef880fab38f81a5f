-- How many contents are held, as a number that is not less counts them.
use Rattle.std.specs.Prelude.{◌<◌, ◌≤◌, ◌⊎◌, ℕ, List, length}
use Rattle.dt_base.specs.names.Grammar.{Identifier}
use Rattle.dtdl_terms.specs.declared.resolved.Resolved.{Resolved}
use Rattle.model_life.specs.resolution.Resolving.{contents_held}

abbrev pub IsCounted : List (Identifier × Resolved) → ℕ → Type 0
IsCounted table held = ((contents_held table ≤ held) × (held ≤ 100000)) ⊎ ((length table ≤ 1) × (100000 < held))

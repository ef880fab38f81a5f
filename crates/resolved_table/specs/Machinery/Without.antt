-- Tables without some of their entries.
use Rattle.std.specs.Prelude.{List, Bool, not}
use Rattle.std.specs.Ordering.{is_eq}
use Rattle.std.specs.List.{filter, list_any}
use Rattle.dt_base.specs.names.Grammar.{Identifier, id_cmp}
use Rattle.dtdl_terms.specs.declared.resolved.Resolved.{Resolved}

-- the key is one of these identifiers
abbrev pub is_removed : List Identifier → Identifier → Bool
is_removed ids key = list_any (λ id. is_eq (id_cmp id key)) ids

-- without the entries of these identifiers
abbrev pub without : List Identifier → List (Identifier × Resolved) → List (Identifier × Resolved)
without ids es = filter (λ e. not (is_removed ids e.0)) es

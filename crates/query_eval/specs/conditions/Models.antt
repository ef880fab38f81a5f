-- When a model is of a named one in a set of interfaces.
use Rattle.std.specs.Prelude.{List, Bool, true, false, Option, Some, None}
use Rattle.std.specs.List.{list_any}
use Rattle.dt_base.specs.names.Grammar.{Identifier, id_eq}
use Rattle.dtdl_terms.specs.Sets.{interface_at}
use Rattle.dtdl_terms.specs.declared.interface.Interface.{Interface}
use Rattle.graph_steps.specs.Conditions.{reaches_version}
use Rattle.graph_steps.specs.Inherited.{ancestors}

-- The model itself, or an interface that it extends, has the path of the named one and a version at least as great; a model
-- that is not in the set has these by itself. With `exact` the two are one.
abbrev pub is_of_model : List Interface → Bool → Identifier → Identifier → Bool
is_of_model set true model named = id_eq model named
is_of_model set false model named = by (interface_at model set)
  where
    by : Option Interface → Bool
    by None = reaches_version model named
    by (Some i) = list_any (λ a. reaches_version a.id named) (ancestors set i)

-- Whether a chain of so many steps at most leads to an interface of the named path and a version at least as great.
use Rattle.std.specs.Prelude.{ℕ, zero, suc, List, Bool, ◌||◌}
use Rattle.std.specs.List.{list_any}
use Rattle.dt_base.specs.names.Grammar.{Identifier}
use Rattle.dtdl_terms.specs.Sets.{interface_at}
use Rattle.dtdl_terms.specs.declared.interface.Interface.{Interface}
use Rattle.extend_resolve.specs.Machinery.Within.{interface_passes}
use Rattle.graph_steps.specs.Conditions.{reaches_version}

abbrev pub leads_within : List Interface → Identifier → ℕ → Interface → Bool
leads_within set named zero i = reaches_version i.id named
leads_within set named (suc n) i = reaches_version i.id named || list_any (λ p. interface_passes (leads_within set named n) (interface_at p set)) i.parents

-- whether the interface of one of these identifiers does
abbrev pub any_leads_within : List Interface → Identifier → ℕ → List Identifier → Bool
any_leads_within set named n ps = list_any (λ p. interface_passes (leads_within set named n) (interface_at p set)) ps

use Rattle.std.proofs.Common.{◌↔◌}
use Rattle.dtdl_terms.specs.declared.interface.Interface.{Interface}
use Rattle.model_life.specs.resolution.Machinery.Families.{IsThere, IsPartAmongFirst}
use Rattle.model_life.proofs.resolution.resolving.parts.Given as goal

abbrev pub invariant-interfaces : goal.invariant-interfaces
invariant-interfaces l = (q : Interface) → IsThere l.found q ↔ IsPartAmongFirst l.set l.interfaces l.interface-index q

use Rattle.std.proofs.Common.{◌↔◌, ◌⊎◌}
use Rattle.dtdl_terms.specs.declared.interface.Interface.{Interface}
use Rattle.model_life.specs.resolution.Machinery.Families.{IsThere, IsPartByFirst}
use Rattle.model_life.proofs.resolution.resolving.add_parts.Given as goal

abbrev pub invariant-contents : goal.invariant-contents
invariant-contents l = (q : Interface) → IsThere l.found q ↔ (IsThere l.fn.found q ⊎ IsPartByFirst l.set l.interface.contents l.content-index q)

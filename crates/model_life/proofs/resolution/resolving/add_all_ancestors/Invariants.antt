use Rattle.std.proofs.Common.{◌⊎◌}
use Rattle.dtdl_terms.specs.declared.interface.Interface.{Interface}
use Rattle.model_life.specs.resolution.Machinery.Families.{IsThere, IsFamily, IsAncestorOfFirst}
use Rattle.model_life.proofs.resolution.resolving.add_all_ancestors.Given as goal

abbrev pub invariant-interfaces : goal.invariant-interfaces
invariant-interfaces l = record {
  family : IsFamily l.set l.found;
  kept : (a : Interface) → IsThere l.fn.found a → IsThere l.found a;
  more : (a : Interface) → IsAncestorOfFirst l.set l.interfaces l.interface-index a → IsThere l.found a;
  only : (a : Interface) → IsThere l.found a → IsThere l.fn.found a ⊎ IsAncestorOfFirst l.set l.interfaces l.interface-index a;
}

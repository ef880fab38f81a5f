-- A set of one interface, of which it is known that it breaks no rule: what tests look at.
use Rattle.std.specs.Prelude.{◌≡◌, List, [], ◌∷◌}
use Rattle.dt_base.specs.names.Grammar.{Identifier}
use Rattle.dtdl_terms.specs.Distinct.{HasDeclaration}
use Rattle.dtdl_terms.specs.declared.interface.Interface.{Interface}
use Rattle.extend_resolve.specs.Breaches.{BreaksNoRule}

abbrev pub IsLone : List Interface → Identifier → Type 0
IsLone set id = (i : Interface) × (set ≡ i ∷ []) × (i.id ≡ id) × BreaksNoRule (i ∷ []) × HasDeclaration i

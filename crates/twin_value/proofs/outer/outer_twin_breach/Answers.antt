use Rattle.std.proofs.Common.{[], sym, subst}
use Rattle.twin_value.specs.Machinery.Outer.{IsOutermost}
use Rattle.twin_value.specs.Roles.{Library, twin_body}
use Rattle.twin_value.proofs.Outermost.{twin_outermost}
use Rattle.twin_value.proofs.outer.outer_twin_breach.Goals as goal

pub outer_in-found-requires : goal.outer_in-found-requires
outer_in-found-requires c = subst (λ (l : Library). IsOutermost (twin_body l [])) (sym c.in_ok-library.ensures) twin_outermost

use Rattle.std.proofs.Common.{None, sym, subst}
use Rattle.dtdl_terms.specs.Terms.{no_contents}
use Rattle.twin_value.specs.Machinery.Outer.{IsOutermost}
use Rattle.twin_value.specs.Roles.{Library, link_body}
use Rattle.twin_value.proofs.Outermost.{link_outermost}
use Rattle.twin_value.proofs.outer.outer_link_breach.Goals as goal

pub outer_in-found-requires : goal.outer_in-found-requires
outer_in-found-requires c = subst (λ (l : Library). IsOutermost (link_body l None no_contents)) (sym c.in_ok-library.ensures) link_outermost

use Rattle.std.proofs.Common.{sym, subst}
use Rattle.dtdl_terms.specs.Sets.{InOrder}
use Rattle.model_life.proofs.resolution.Assembly.{listed_as, if_ok_both}
use Rattle.model_life.proofs.resolution.resolving.ancestors.Goals as goal

pub returns-clause-each : goal.returns-clause-each
returns-clause-each c = if_ok_both c.list-list.result (λ list is ordered. listed_as c.in_ok-found.found list.items is ordered c.in_ok-found.ensures.each) c.list-list.ensures.each c.list-list.ensures.ordered

pub returns-clause-ordered : goal.returns-clause-ordered
returns-clause-ordered c = if_ok_both c.list-list.result (λ list is ordered. subst InOrder (sym is) ordered) c.list-list.ensures.each c.list-list.ensures.ordered

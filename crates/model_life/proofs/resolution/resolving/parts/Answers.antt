use Rattle.std.proofs.Common.{◌↔◌, sym, subst, arith}
use Rattle.model_life.specs.resolution.Machinery.Families.{IsThere, IsPartAmongFirst}
use Rattle.dtdl_terms.specs.Sets.{InOrder}
use Rattle.model_life.proofs.resolution.Assembly.{parts_among, among_none, among_there, all_parts, if_ok_both}
use Rattle.model_life.proofs.resolution.resolving.parts.Goals as goal

pub interfaces-init : goal.interfaces-init
interfaces-init c q = subst (λ f. IsThere f q ↔ IsPartAmongFirst c.args.set.now c.args.interfaces.now 0 q) (sym c.new-found.ensures) (among_none c.args.set.now c.args.interfaces.now q)

pub add_parts-requires : goal.add_parts-requires
add_parts-requires c q h = among_there c.args.set.now c.args.interfaces.now c.interfaces.interface-index q ((c.interfaces.invariant q).0 h)

pub interfaces-preserved : goal.interfaces-preserved
interfaces-preserved c =
    parts_among c.args.set.now c.args.interfaces.now c.interfaces.interface-index c.interface-item.result c.interfaces.found c.add_parts.new.found (omega (arith, c.interfaces-test.true)) c.interface-item.is c.in_ok-add_parts.ensures c.interfaces.invariant

pub returns-clause-each : goal.returns-clause-each
returns-clause-each c =
    if_ok_both c.list.result
    (λ parts is ordered. all_parts c.args.set.now c.args.interfaces.now c.interfaces.interface-index c.interfaces.found parts.items (omega (arith, c.interfaces-test.false)) (omega arith) is ordered c.interfaces.invariant)
    c.list.ensures.each c.list.ensures.ordered

pub returns-clause-ordered : goal.returns-clause-ordered
returns-clause-ordered c = if_ok_both c.list.result (λ parts is ordered. subst InOrder (sym is) ordered) c.list.ensures.each c.list.ensures.ordered

use Rattle.dt_base.proofs.names.Cuts.{identifiers_ordered}
use Rattle.dt_base.proofs.names.dtmi.order.Goals as goal

pub returns-clause-equal : goal.returns-clause-equal
returns-clause-equal c =
    identifiers_ordered c.args.a.now c.args.b.now _ _ c.cmp.result c.as_str.ensures.own c.as_str-2.ensures.own
    c.as_str.ensures.same c.as_str-2.ensures.same c.cmp.ensures

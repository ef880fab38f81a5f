use Rattle.std.proofs.Common.{take, cond, None, sym, ap, ◌∙◌, subst, arith}
use Rattle.dt_base.specs.names.Grammar.{id_eq}
use Rattle.dtdl_terms.specs.Sets.{InOrder, interface_at}
use Rattle.model_life.specs.sets.Changing.{without_interfaces, is_one_of}
use Rattle.model_life.proofs.sets.Looking.{at_without, ordered_without, ordered_without_one, same_set}
use Rattle.model_life.specs.Machinery.Keeping.{record_at}
use Rattle.model_life.proofs.Using.{any_next, any_all}
use Rattle.model_life.proofs.Recorded.{gone_next, gone_interface, gone_entry}
use Rattle.model_life.proofs.store.leave_all.Goals as goal

pub ids-preserved : goal.ids-preserved
ids-preserved c = record {
  ordered = subst InOrder (sym c.remove-interface.ensures.interfaces) (ordered_without_one c.id-item.result c.ids.set c.ids.invariant.ordered);
  interfaces = λ q.
      gone_next (is_one_of (take c.ids.id-index c.args.ids.now) q) (id_eq q c.id-item.result) (interface_at q c.args.set.now) (interface_at q c.ids.set) (interface_at q c.remove-interface.new.self)
      (c.ids.invariant.interfaces q) (gone_interface c.id-item.result q c.ids.set c.remove-interface.new.self c.ids.invariant.ordered c.remove-interface.ensures.interfaces)
      ∙ ap (λ b. cond b None (interface_at q c.args.set.now)) (sym (any_next (id_eq q) c.args.ids.now c.ids.id-index c.id-item.result c.ids-test.true c.id-item.is));
  records = λ q.
      gone_next (is_one_of (take c.ids.id-index c.args.ids.now) q) (id_eq q c.id-item.result) (record_at q c.args.records.now) (record_at q c.ids.records) (record_at q c.remove.new.self)
      (c.ids.invariant.records q) (gone_entry c.id-item.result q c.ids.records c.remove.new.self c.remove.ensures.ordered c.remove.ensures.entries)
      ∙ ap (λ b. cond b None (record_at q c.args.records.now)) (sym (any_next (id_eq q) c.args.ids.now c.ids.id-index c.id-item.result c.ids-test.true c.id-item.is));
}

pub returns-clause-set : goal.returns-clause-set
returns-clause-set c =
    same_set c.ids.set (without_interfaces c.args.ids.now c.args.set.now) c.ids.invariant.ordered (ordered_without c.args.ids.now c.args.set.now c.requires)
    (λ q.
    c.ids.invariant.interfaces q
    ∙ ap (λ b. cond b None (interface_at q c.args.set.now)) (any_all (id_eq q) c.args.ids.now c.ids.id-index (omega (arith, c.ids-test.false)))
    ∙ sym (at_without c.args.ids.now c.args.set.now q))

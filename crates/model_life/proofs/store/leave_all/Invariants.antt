use Rattle.std.proofs.Common.{◌≡◌, take, cond, None}
use Rattle.dt_base.specs.names.Grammar.{Identifier}
use Rattle.dtdl_terms.specs.Sets.{InOrder, interface_at}
use Rattle.model_life.specs.sets.Changing.{is_one_of}
use Rattle.model_life.specs.Machinery.Keeping.{record_at}
use Rattle.model_life.proofs.store.leave_all.Given as goal

abbrev pub invariant-ids : goal.invariant-ids
invariant-ids l = record {
  ordered : InOrder l.set;
  interfaces : (q : Identifier) → interface_at q l.set ≡ cond (is_one_of (take l.id-index l.ids) q) None (interface_at q l.fn.set);
  records : (q : Identifier) → record_at q l.records ≡ cond (is_one_of (take l.id-index l.ids) q) None (record_at q l.fn.records);
}

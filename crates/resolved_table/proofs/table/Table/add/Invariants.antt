use Rattle.std.proofs.Common.{◌≡◌, false, drop}
use Rattle.std.specs.List.{list_any}
use Rattle.dt_base.specs.names.Grammar.{Identifier, id_eq}
use Rattle.dtdl_terms.specs.Sets.{interface_at}
use Rattle.model_life.specs.resolution.Resolving.{EntryOf, entry_at}
use Rattle.resolved_table.specs.Machinery.Without.{without}
use Rattle.resolved_table.proofs.table.Table.add.Given as goal

abbrev pub invariant-ids : goal.invariant-ids
invariant-ids l = record {
  others : (id : Identifier) → list_any (id_eq id) (drop l.id-index l.ids) ≡ false → EntryOf l.set (interface_at id l.set) (entry_at id l.self);
  before : without l.ids l.self ≡ l.fn.self;
}

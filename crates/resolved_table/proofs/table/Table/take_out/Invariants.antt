use Rattle.std.proofs.Common.{◌≡◌, drop}
use Rattle.resolved_table.specs.Machinery.Without.{without}
use Rattle.resolved_table.proofs.table.Table.take_out.Given as goal

abbrev pub invariant-ids : goal.invariant-ids
invariant-ids l = without (drop l.id-index l.ids) l.self ≡ without l.ids l.fn.self

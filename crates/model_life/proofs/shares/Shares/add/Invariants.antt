use Rattle.std.proofs.Common.{◌≡◌, ◌+◌, ◌≤◌, take, drop, false}
use Rattle.std.specs.List.{sum_by}
use Rattle.dt_base.specs.names.Grammar.{Identifier}
use Rattle.model_life.specs.sets.Changing.{is_one_of}
use Rattle.model_life.specs.Machinery.Keeping.{share_at, written_at}
use Rattle.model_life.proofs.shares.Shares.add.Given as goal

abbrev pub invariant-ids : goal.invariant-ids
invariant-ids l = record {
  sum : l.sum ≡ l.start + sum_by (share_at l.set) (take l.id-index l.ids);
  low : l.sum ≤ 268435456;
  written : (q : Identifier) → is_one_of (drop l.id-index l.ids) q ≡ false → written_at q l.self ≡ share_at l.set q;
  others : (q : Identifier) → is_one_of l.ids q ≡ false → written_at q l.self ≡ written_at q l.fn.self;
}

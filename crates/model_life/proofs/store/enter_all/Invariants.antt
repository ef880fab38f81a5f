use Rattle.std.proofs.Common.{◌≡◌, ◌++◌, map, false, Some}
use Rattle.std.specs.List.{AllByRecursion}
use Rattle.dt_base.specs.names.Grammar.{Identifier}
use Rattle.model_life.specs.sets.Changing.{with_uploads, is_one_of}
use Rattle.model_life.specs.Machinery.Keeping.{record_at, fresh_record}
use Rattle.model_life.proofs.store.enter_all.Given as goal

abbrev pub invariant-new : goal.invariant-new
invariant-new l = record {
  whole : l.yielded ++ l.upload-iterator.rest.items ≡ l.fn.new;
  set : l.set ≡ with_uploads l.yielded l.fn.set;
  records : AllByRecursion (λ u. record_at u.interface.id l.records ≡ Some (fresh_record u.interface)) l.yielded;
  others : (q : Identifier) → is_one_of (map (λ u. u.interface.id) l.yielded) q ≡ false → record_at q l.records ≡ record_at q l.fn.records;
}

use Rattle.std.proofs.Common.{◌≡◌, ◌<◌, ◌-◌, Some, length}
use Rattle.std.specs.Prelude.{slice_get}
use Rattle.extend_resolve.specs.Machinery.Names.{SortedName, HoldNumbers, number_named}
use Rattle.extend_resolve.proofs.names.number_all.Given as goal

abbrev pub invariant-entries : goal.invariant-entries
invariant-entries l = record {
  size : length l.numbers ≡ length l.fn.numbers;
  written : HoldNumbers l.entries l.index l.numbers;
  number : (d : SortedName) → 0 < l.index → slice_get l.entries (l.index - 1) ≡ Some d → number_named l.entries d.1.now ≡ Some l.number;
}

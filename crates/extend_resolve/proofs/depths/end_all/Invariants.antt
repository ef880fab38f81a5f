use Rattle.std.proofs.Common.{take}
use Rattle.std.specs.List.{AllByRecursion}
use Rattle.extend_resolve.specs.Machinery.Deepening.{IsDeepening, Grows, IsTried}
use Rattle.extend_resolve.proofs.depths.end_all.Given as goal

abbrev pub invariant-numbers : goal.invariant-numbers
invariant-numbers l = record {
  so_far : IsDeepening l.links l.depths l.ended.items;
  grows : Grows l.fn.ended.items l.ended.items;
  tried : AllByRecursion (IsTried l.links l.fn.ended.items l.ended.items) (take l.number-index l.numbers);
}

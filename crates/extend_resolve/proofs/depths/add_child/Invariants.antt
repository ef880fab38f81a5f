use Rattle.std.proofs.Common.{◌≡◌, length, drop}
use Rattle.extend_resolve.specs.Machinery.Deepening.{with_child}
use Rattle.extend_resolve.proofs.depths.add_child.Given as goal

abbrev pub invariant-parents : goal.invariant-parents
invariant-parents l = record {
  done : with_child l.fn.children l.child l.parents ≡ with_child l.children l.child (drop l.parent-index l.parents);
  bound : length l.children ≡ length l.fn.children;
}

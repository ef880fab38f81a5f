use Rattle.twin_patch.proofs.Entries.{Behind, Failing}
use Rattle.twin_patch.proofs.reading.read_ops.Given as goal

abbrev pub invariant-entries : goal.invariant-entries
invariant-entries l = record {
  behind : Behind l.of l.entries l.index l.ops.items;
  failing : Failing l.of l.entries l.index;
}

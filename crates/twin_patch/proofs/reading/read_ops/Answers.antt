use Rattle.std.proofs.Common.{◌+◌, List, sym, subst}
use Rattle.twin_patch.specs.declared.patch.Op.{Op}
use Rattle.twin_patch.proofs.Entries.{Behind, one_read, one_passed, ended, all_read, none_failing}
use Rattle.twin_patch.proofs.reading.read_ops.Goals as goal

pub entries-init : goal.entries-init
entries-init c = record { behind = rw c.in_ok-ops.ensures.items (λ os h. h); failing = none_failing c.args.of c.args.entries.now }

pub entries-preserved : goal.entries-preserved
entries-preserved c = record {
  behind = subst (λ (l : List Op). Behind c.args.of c.args.entries.now (c.entries.index + 1) l) (sym c.in_ok-push-in-Ok.ensures.items)
      (one_read c.args.of c.args.entries.now c.entries.index c.index-entries-index.result c.entries.ops.items c.in-Ok.op c.entries-test.true c.index-entries-index.is c.in-Ok.ensures c.entries.invariant.behind);
  failing = one_passed c.args.of c.args.entries.now c.entries.index c.index-entries-index.result c.in-Ok.op c.entries-test.true c.index-entries-index.is c.in-Ok.ensures c.entries.invariant.failing;
}

pub returns-in-Err : goal.returns-in-Err
returns-in-Err c =
    rw c.end_of.ensures
    (ended c.args.of c.args.entries.now c.entries.index c.index-entries-index.result c.in-Err.end c.entries-test.true c.index-entries-index.is c.in-Err.ensures c.entries.invariant.failing)

pub returns : goal.returns
returns c = rw c.from_vec.ensures (all_read c.args.of c.args.entries.now c.entries.index c.entries.ops.items c.entries-test.false c.entries.invariant.behind)

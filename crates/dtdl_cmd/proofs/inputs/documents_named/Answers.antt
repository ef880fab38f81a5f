use Rattle.std.proofs.Common.{◌+◌, Err, subst, ◌∙◌, arith}
use Rattle.std.specs.Prelude.{string_bytes}
use Rattle.std.proofs.lemmas.Result.{err_from_is_err_and}
use Rattle.dt_base.specs.Faults.{Rose}
use Rattle.dtdl_cmd.specs.Machinery.Gathering.{IsFetched}
use Rattle.dtdl_cmd.proofs.Gathered.{ended, one_more, room_less, rose_before}
use Rattle.dtdl_cmd.proofs.inputs.documents_named.Goals as goal

pub returns-in_err-bytes-clause-gathered : goal.returns-in_err-bytes-clause-gathered
returns-in_err-bytes-clause-gathered g c =
    let faults = g.F.Shelf.faults in
    let p = err_from_is_err_and c.from_residual.result c.from_residual.ensures.1 in
    let told : IsFetched (g.F.Shelf.files c.loop-at.shelf) c.as_str.result.now (c.loop-at.at + 1) c.loop-at.room (Rose (faults c.loop-at.shelf) (faults c.document_named.new.shelf)) (Err c.in_err-bytes.field-0.0) = c.in_err-bytes.ensures.fetched in
    let named = subst (λ name. IsFetched (g.F.Shelf.files c.loop-at.shelf) name (c.loop-at.at + 1) c.loop-at.room (Rose (faults c.loop-at.shelf) (faults c.document_named.new.shelf)) (Err c.in_err-bytes.field-0.0)) c.as_str.ensures.value told in
    let fetched = subst (λ files. IsFetched files (string_bytes c.index-names-at.result) (c.loop-at.at + 1) c.loop-at.room (Rose (faults c.loop-at.shelf) (faults c.document_named.new.shelf)) (Err c.in_err-bytes.field-0.0)) c.loop-at.invariant.same named in
    rw (p.1, p.2)
    (ended (g.F.Shelf.files c.args.shelf.now) c.args.names.now c.loop-at.at c.index-names-at.result c.loop-at.documents c.loop-at-test.true c.index-names-at.is c.loop-at.invariant.fetched
    c.loop-at.room c.in_err-bytes.field-0.0 (Rose (faults c.loop-at.shelf) (faults c.document_named.new.shelf)) (Rose (faults c.args.shelf.now) (faults c.document_named.new.shelf))
    (rose_before (faults c.args.shelf.now) (faults c.loop-at.shelf) (faults c.document_named.new.shelf) c.loop-at.invariant.count) c.loop-at.invariant.room fetched)

pub loop-at-preserved : goal.loop-at-preserved
loop-at-preserved g c =
    let fetched = rw (c.loop-at.invariant.same, c.as_str.ensures.value) at c.in_ok-bytes.ensures.fetched in
    let count = c.in_ok-bytes.ensures.count in
    record {
      fetched = rw c.in_ok-push.ensures.ok
          (one_more (g.F.Shelf.files c.args.shelf.now) c.args.names.now c.loop-at.at c.index-names-at.result c.loop-at.documents c.loop-at-test.true c.index-names-at.is c.loop-at.invariant.fetched
          c.in_ok-bytes.bytes fetched.0);
      room = rw (c.in_ok-push.ensures.ok, c.len-room.ensures) (room_less c.loop-at.documents c.in_ok-bytes.bytes c.loop-at.room c.loop-at.invariant.room fetched.1);
      count = omega (arith, count, c.loop-at.invariant.count);
      same = c.in_ok-bytes.ensures.same ∙ c.loop-at.invariant.same;
    }

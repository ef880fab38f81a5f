use Rattle.std.proofs.Common.{◌∙◌, arith}
use Rattle.std.proofs.Math.Seq.{take-add}
use Rattle.std.proofs.lemmas.List.{take_rest, length-drop}
use Rattle.std.proofs.KnownBytes.{Appends-trans}
use Rattle.dt_base.proofs.writes.write_all.Goals as goal

pub writing-preserved : goal.writing-preserved
writing-preserved g c =
    let bound = rw (take_rest c.args.bytes.now c.writing.written) at c.in-Ok.ensures.bound in
    let appended = rw (take_rest c.args.bytes.now c.writing.written) at c.in-Ok.ensures.appended in
    record {
      within = omega (arith, bound, length-drop c.writing.written c.args.bytes.now);
      front = rw take-add (Appends-trans (g.K.Sink.taken c.args.sink.now) (g.K.Sink.taken c.writing.sink) (g.K.Sink.taken c.write.new.self) _ _ c.writing.invariant.front appended);
      count = omega (arith, c.in-Ok.ensures.count);
      beside = c.in-Ok.ensures.beside ∙ c.writing.invariant.beside;
    }

use Rattle.std.proofs.Common.{length, drop, ap, ◌∙◌, sym, arith}
use Rattle.httparse.proofs.RunLemmas.{length-slice_range}
use Rattle.http_ends.proofs.SliceLemmas.{drop-slice_range}
use Rattle.http_ends.proofs.buffer.Buffer.consume.Goals as goal

pub returns : goal.returns
returns c =
    let inside = c.self.inside in
    let size = length-slice_range inside.bytes.items inside.start inside.end c.self.invariant.0 (omega (arith, inside.bytes.ok.0)) in
    sym (drop-slice_range inside.bytes.items inside.start inside.end c.args.count (omega (arith, size, ap length c.self.view_is)))
    ∙ ap (drop c.args.count) c.self.view_is

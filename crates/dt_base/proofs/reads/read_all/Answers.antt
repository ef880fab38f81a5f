use Rattle.std.proofs.Common.{◌≡◌, length, take, drop, arith, ◌∙◌, ap}
use Rattle.std.specs.Io.KnownBytes.{Consumes}
use Rattle.std.proofs.Math.Seq.{take-add}
use Rattle.std.proofs.lemmas.List.{take_at}
use Rattle.std.proofs.KnownBytes.{Consumes-trans}
use Rattle.dt_base.proofs.reads.read_all.Goals as goal

pub reading-preserved : goal.reading-preserved
reading-preserved g c =
    let room = c.in_ok-make_room.ensures in
    let read = c.in_ok-count.ensures in
    let size : length c.fill.new.buffer ≡ c.make_room.new.buffer.len = c.fill.auto.buffer ∙ c.deref_mut.ensures.len in
    let same : take c.reading.filled c.fill.new.buffer ≡ take c.reading.filled c.reading.buffer.items = read.front ∙ ap (take c.reading.filled) c.deref_mut.ensures.value ∙ room.front in
    let front : Consumes (g.S.Source.left c.args.source.now) (g.S.Source.left c.reading.source) (take c.reading.filled c.fill.new.buffer) = rw same c.reading.invariant.front in
    record {
      filled = omega (arith, read.within, c.deref_mut.ensures.len);
      within = room.within;
      front = rw (take_at c.fill.new.buffer (drop (length c.fill.new.buffer) c.make_room.new.buffer.items) c.make_room.new.buffer.len size, take-add)
          (Consumes-trans (g.S.Source.left c.args.source.now) (g.S.Source.left c.reading.source) (g.S.Source.left c.fill.new.source) _ _ front read.moved);
      count = omega (arith, read.count);
      beside = read.beside ∙ c.reading.invariant.beside;
    }

use Rattle.std.proofs.Common.{refl}
use Rattle.std.specs.List.{slice_range}
use Rattle.json_read.specs.Machinery.Automaton.{after}
use Rattle.json_read.proofs.ValueSpans.{number_read, number_out}
use Rattle.json_read.proofs.reading.number_of.Goals as goal

pub returns-in-Ok-clause-read : goal.returns-in-Ok-clause-read
returns-in-Ok-clause-read c d k =
    rw (c.found_at.ensures.tree, c.found_at.ensures.range, c.found_at.ensures.at)
    (number_read c.args.bytes.now (after d k) (slice_range c.args.bytes.now c.args.at c.in_ok-end.end) c.in-Ok.decimal c.in_ok-end.end _
    c.in-Ok.ensures.reads (record { low = c.in-Ok.decimal.least; high = c.in-Ok.decimal.most }) c.in-Ok.ensures.exact (c.in_ok-end.ensures.read d k))

pub returns-in-Err-Range-clause-read : goal.returns-in-Err-Range-clause-read
returns-in-Err-Range-clause-read c d k =
    let out = rw c.in-Err-Range.field-0-is at c.in-Err-Range.ensures.reads in
    number_out c.args.bytes.now (after d k) (slice_range c.args.bytes.now c.args.at c.in_ok-end.end) out.0 _ c.new.result.items c.in_ok-end.end _
    out.1 out.2 refl c.new.ensures.items (c.in_ok-end.ensures.read d k)

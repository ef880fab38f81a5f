use Rattle.std.proofs.Common.{◌<◌, ◌+◌, [], List, ℕ, length, sym, ap, ◌∙◌, arith}
use Rattle.std.specs.List.{slice_range}
use Rattle.json_read.specs.Machinery.Automaton.{used, reading}
use Rattle.json_read.proofs.TextSpans.{text_ends}
use Rattle.json_read.proofs.strings.mixed_text_of.Goals as goal

pub returns-then-byte_at-eq34-clause-read : goal.returns-then-byte_at-eq34-clause-read
returns-then-byte_at-eq34-clause-read c u d k =
    let mark = c.if-byte_at-eq34.true in
    let within : c.in_ok-end.end < length c.args.bytes.now = c.byte_at.ensures.within (omega arith) in
    c.in_ok-end.ensures.read.reads u [] d k
    ∙ text_ends c.args.bytes.now c.in_ok-end.end u (slice_range c.args.bytes.now c.args.at c.in_ok-end.end) d k within (sym c.byte_at.ensures.value ∙ mark)
    ∙ ap (λ (xs : List ℕ). reading c.args.bytes.now (used u xs d k) (c.in_ok-end.end + 1)) (sym (c.in_ok-from_str.ensures ∙ c.run_of-run.ensures))

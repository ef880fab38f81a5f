use Rattle.std.proofs.Common.{◌<◌, ◌+◌, [], List, ℕ, length, sym, ap, ◌∙◌, arith}
use Rattle.std.specs.List.{slice_range}
use Rattle.json_read.specs.Machinery.Automaton.{used, reading}
use Rattle.json_read.proofs.TextSpans.{text_ends, plain_copies}
use Rattle.json_read.proofs.strings.text_of.Goals as goal

pub run_of-run-requires : goal.run_of-run-requires
run_of-run-requires c =
    let plain = c.plain_end-end.ensures in
    plain_copies c.args.bytes.now c.args.at c.plain_end-end.result plain.forward plain.within plain.plain

pub returns-then-byte_at-eq34-clause-read : goal.returns-then-byte_at-eq34-clause-read
returns-then-byte_at-eq34-clause-read c u d k =
    let mark = c.if-byte_at-eq34.true in
    let end = c.plain_end-end.result in
    let plain = c.plain_end-end.ensures in
    let within : end < length c.args.bytes.now = c.byte_at.ensures.within (omega arith) in
    (plain_copies c.args.bytes.now c.args.at end plain.forward plain.within plain.plain).reads u [] d k
    ∙ text_ends c.args.bytes.now end u (slice_range c.args.bytes.now c.args.at end) d k within (sym c.byte_at.ensures.value ∙ mark)
    ∙ ap (λ (xs : List ℕ). reading c.args.bytes.now (used u xs d k) (end + 1)) (sym (c.in_ok-from_str.ensures ∙ c.run_of-run.ensures))

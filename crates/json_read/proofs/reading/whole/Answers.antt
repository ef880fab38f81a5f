use Rattle.std.proofs.Common.{[], refl, ◌∙◌}
use Rattle.json_read.specs.Machinery.Automaton.{after}
use Rattle.json_read.proofs.Readings.{reading_end}
use Rattle.json_read.proofs.reading.whole.Goals as goal

pub returns : goal.returns
returns c =
    let r = c.in_ok-value.ensures.read [] in
    (r.0, r.1, r.2, r.3 ∙ c.spaces_end-end.ensures.same (after 64 [] r.0) refl refl refl refl ∙ reading_end c.args.bytes.now (after 64 [] r.0) c.spaces_end-end.result c.if-end-bytes.false)

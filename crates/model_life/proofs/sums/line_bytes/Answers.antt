use Rattle.std.proofs.Common.{ap, ◌∙◌}
use Rattle.model_life.specs.Machinery.Keeping.{capped}
use Rattle.model_life.proofs.Taking.{line_recorded, found_line}
use Rattle.model_life.proofs.sums.line_bytes.Goals as goal

pub returns : goal.returns
returns c =
    c.text_bytes-bytes.ensures
    ∙ ap capped
    (line_recorded c.args.set.now c.args.records.now c.requires.records c.args.interface.now c.as_slice.result.now
    (found_line c.args.set.now c.requires.sound c.requires.ordered c.args.interface.now c.requires.there c.as_slice.result.now c.in_ok-ancestors.ancestors.items c.as_slice.ensures.value c.in_ok-ancestors.ensures.each c.in_ok-ancestors.ensures.ordered))

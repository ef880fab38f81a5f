use Rattle.std.proofs.Common.{◌≡◌, ◌<◌, length, slice_index_or, ap, ◌∙◌, subst, arith}
use Rattle.model_life.proofs.resolution.Declared.{declared_more}
use Rattle.model_life.proofs.resolution.contents.add_contents.Goals as goal

pub contents-preserved : goal.contents-preserved
contents-preserved c =
    let same : c.as_slice-content-items.result.now ≡ c.args.interface.now.contents = c.as_slice-content-items.ensures in
    let low : c.contents.content-index < length c.as_slice-content-items.result.now = omega (arith, c.contents-test.true) in
    declared_more c.args.interface.now c.contents.content-index c.content-item.result c.args.contents.now c.contents.contents c.add.new.self
    (subst (λ xs. c.contents.content-index < length xs) same low)
    (c.content-item.is ∙ ap (λ xs. slice_index_or xs c.contents.content-index c.content-item.result) same)
    c.requires.one c.contents.invariant c.in_ok-add.ensures

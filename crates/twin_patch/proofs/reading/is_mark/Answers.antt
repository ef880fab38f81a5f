use Rattle.std.proofs.Common.{◌≡◌, ◌∷◌, [], sym, ◌∙◌}
use Rattle.std.specs.Prelude.{codes}
use Rattle.twin_patch.proofs.Parts.{mark}
use Rattle.twin_patch.proofs.reading.is_mark.Goals as goal

pub returns-then-is_mark_path : goal.returns-then-is_mark_path
returns-then-is_mark_path c =
    let path : c.op-item.result.path ≡ codes "decommissioned" ∷ [] = sym c.as_slice.ensures ∙ c.is_mark_path.ensures.0 c.if-is_mark_path.true in
    mark c.sets_truth.result c.args.ops.now c.op-item.result c.in-len1.len_at_least c.in-len1.len_below c.op-item.is path c.sets_truth.ensures

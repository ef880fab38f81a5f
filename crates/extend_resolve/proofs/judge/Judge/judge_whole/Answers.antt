use Rattle.std.proofs.Common.{◌+◌, ap, ◌∙◌}
use Rattle.std.specs.Prelude.{min}
use Rattle.extend_resolve.specs.Machinery.Judges.{nodes_in, counted_rest}
use Rattle.extend_resolve.proofs.Judging.{all_below, whole_least}
use Rattle.extend_resolve.proofs.judge.Judge.judge_whole.Goals as goal

pub count_contents-others-requires : goal.count_contents-others-requires
count_contents-others-requires c = all_below c.args.self.now c.args.index c.args.uploaded.now c.requires.judging c.args.ancestors.now c.requires.behind

pub returns : goal.returns
returns c =
    whole_least c.args.self.now c.args.index c.args.uploaded.now c.requires.judging c.args.ancestors.now c.count_contents-others.result c.saturating_add-total.result c.found_where.result c.requires.behind
    (c.count_contents-others.ensures ∙ ap (λ o. min (counted_rest (nodes_in c.args.self.now) c.args.index o c.args.ancestors.now) 18446744073709551615) c.requires.own)
    (c.saturating_add-total.ensures ∙ ap (λ n. min (c.count_contents-others.result + n) 18446744073709551615) c.len.ensures)
    c.found_where.ensures

use Rattle.std.proofs.Common.{ap, ◌∙◌}
use Rattle.extend_resolve.specs.Machinery.Judges.{is_other_than}
use Rattle.extend_resolve.proofs.Judging.{id_least}
use Rattle.extend_resolve.proofs.judge.Judge.judge_id.Goals as goal

pub returns : goal.returns
returns c =
    id_least c.args.self.now c.args.index c.args.uploaded.now c.requires.judging c.is_other.result c.found_where.result
    (c.is_other.ensures ∙ ap (is_other_than c.args.index) c.requires.own) c.found_where.ensures

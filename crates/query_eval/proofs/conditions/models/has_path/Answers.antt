use Rattle.query_eval.proofs.conditions.Leading.{path_decided}
use Rattle.query_eval.proofs.conditions.models.has_path.Goals as goal

pub returns : goal.returns
returns c = path_decided c.same_path.result c.args.id.now.segments c.args.named.now.segments c.same_path.ensures

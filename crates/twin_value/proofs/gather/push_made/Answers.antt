use Rattle.twin_value.proofs.Gathered.{adds_one}
use Rattle.twin_value.proofs.gather.push_made.Goals as goal

pub returns : goal.returns
returns c = λ v h. adds_one _ _ c.args.key.now v _ c.in_ok-push.ensures.items c.in-Ok.ensures h

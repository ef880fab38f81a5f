use Rattle.twin_value.proofs.Gathered.{adds_none}
use Rattle.twin_value.proofs.gather.push_if.Goals as goal

pub returns-else-passes : goal.returns-else-passes
returns-else-passes c = rw c.if-passes.false (adds_none _)

use Rattle.graph_machine.proofs.Answered.{full_in}
use Rattle.graph_machine.proofs.growing.refused.Goals as goal

pub returns-in-Full : goal.returns-in-Full
returns-in-Full c = λ s same. full_in s c.args.models.now c.args.new.now same c.in-Full.limit (rw c.in-Full.is at c.requires)

use Rattle.std.proofs.Common.{inr}
use Rattle.graph_machine.proofs.machine.Machine.query.Goals as goal

pub returns-clause-allowed : goal.returns-clause-allowed
returns-clause-allowed c = inr ((λ r h. h), c.in_ok-query_page.ensures)

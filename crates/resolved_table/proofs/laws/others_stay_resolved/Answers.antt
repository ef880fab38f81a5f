use Rattle.resolved_table.proofs.Sets.{with_more}
use Rattle.resolved_table.proofs.laws.others_stay_resolved.Goals as goal

pub returns : goal.returns
returns c = with_more

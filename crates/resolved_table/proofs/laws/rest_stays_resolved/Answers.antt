use Rattle.resolved_table.proofs.Sets.{with_less}
use Rattle.resolved_table.proofs.laws.rest_stays_resolved.Goals as goal

pub returns : goal.returns
returns c set id table sound sorted free ordered all = with_less set id sound sorted free table ordered all

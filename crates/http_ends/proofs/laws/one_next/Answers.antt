use Rattle.http_ends.proofs.OneLemmas.{one_next}
use Rattle.http_ends.proofs.laws.one_next.Goals as goal

pub returns : goal.returns
returns c = one_next

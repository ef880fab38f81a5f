use Rattle.http_ends.proofs.OneLemmas.{one_reply}
use Rattle.http_ends.proofs.laws.one_reply.Goals as goal

pub returns : goal.returns
returns c = one_reply

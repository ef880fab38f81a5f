use Rattle.http_ends.proofs.ReplyBack.{replies_read_back}
use Rattle.http_ends.proofs.laws.replies_read_back.Goals as goal

pub returns : goal.returns
returns c = replies_read_back

use Rattle.http_ends.proofs.RequestBack.{requests_read_back}
use Rattle.http_ends.proofs.laws.requests_read_back.Goals as goal

pub returns : goal.returns
returns c = requests_read_back

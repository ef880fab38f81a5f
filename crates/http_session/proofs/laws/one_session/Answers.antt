use Rattle.http_session.proofs.Unique.{one_session}
use Rattle.http_session.proofs.laws.one_session.Goals as goal

pub returns : goal.returns
returns g c = one_session g.R.Rules.own g.R.Rules.enters g.R.Rules.allowed g.R.Rules.follows g.R.Rules.same

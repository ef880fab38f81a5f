use Rattle.query_lexer.proofs.Unique.{one_token}
use Rattle.query_lexer.proofs.laws.one_token.Goals as goal

pub returns : goal.returns
returns c = λ bytes t u p q. one_token t u bytes p q

use Rattle.query_lexer.proofs.Unique.{one_longest}
use Rattle.query_lexer.proofs.laws.one_longest.Goals as goal

pub returns : goal.returns
returns c = λ from to behind t u p q. one_longest from to behind t u p q

use Rattle.std.proofs.lemmas.Result.{IfOk-weaker}
use Rattle.query_terms.specs.Queries.{asked}
use Rattle.dtdl_cmd.proofs.making.maker.Maker.count_of.Goals as goal

pub returns-in-Count : goal.returns-in-Count
returns-in-Count c = IfOk-weaker c.count.result _ _ (λ n is. (asked c.in-Ok.query, c.in-Ok.ensures, is)) c.count.ensures

use Rattle.dtdl_cmd.proofs.making.OneText.{one_text}
use Rattle.dtdl_cmd.proofs.making.laws.one_text.Goals as goal

pub returns : goal.returns
returns c = one_text c.one_answer.ensures c.one_query.ensures

use Rattle.graph_answers.proofs.rows.Keys.{kept_ascend, rows_ascend}
use Rattle.graph_answers.proofs.rows.rows_in_order.Goals as goal

pub returns-clause-all : goal.returns-clause-all
returns-clause-all c = λ s q w. rows_ascend s w q

pub returns-clause-kept : goal.returns-clause-kept
returns-clause-kept c = λ s q w. kept_ascend s w q

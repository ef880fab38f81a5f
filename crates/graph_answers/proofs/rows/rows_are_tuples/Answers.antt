use Rattle.graph_answers.proofs.rows.Tuples.{kept_are, rows_are}
use Rattle.graph_answers.proofs.rows.rows_are_tuples.Goals as goal

pub returns-clause-all : goal.returns-clause-all
returns-clause-all c = λ s q row w. rows_are s w q row

pub returns-clause-kept : goal.returns-clause-kept
returns-clause-kept c = λ s q row w. kept_are s w q row

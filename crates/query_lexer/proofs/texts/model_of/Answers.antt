use Rattle.dt_base.proofs.names.Exact.{dtmi_refused}
use Rattle.query_lexer.proofs.texts.model_of.Goals as goal

pub returns-in_default : goal.returns-in_default
returns-in_default c = λ id own. c.in_default.not-OutOfMemory (dtmi_refused c.args.text.now id c.in-Err.fault own c.in-Err.ensures)

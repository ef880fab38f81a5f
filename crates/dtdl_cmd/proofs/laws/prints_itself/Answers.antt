use Rattle.dtdl_cmd.proofs.PrintsItself.{is_answered, to_words}
use Rattle.dtdl_cmd.proofs.laws.prints_itself.Goals as goal

pub returns-clause-there : goal.returns-clause-there
returns-clause-there c = λ documents us d short. is_answered c.one_number.ensures documents us d short

pub returns-clause-only : goal.returns-clause-only
returns-clause-only c = λ documents us d short. to_words c.one_number.ensures documents us d short

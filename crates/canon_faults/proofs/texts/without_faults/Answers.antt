use Rattle.canon_faults.proofs.PrintedAgain.{nothing_broken, text_spelled}
use Rattle.canon_faults.proofs.texts.without_faults.Goals as goal

pub returns-clause-spelled : goal.returns-clause-spelled
returns-clause-spelled c = text_spelled c.one_value.ensures

pub returns-clause-unbroken : goal.returns-clause-unbroken
returns-clause-unbroken c = nothing_broken c.one_value.ensures

use Rattle.json_tree.proofs.OnePointer.{one_pointer}
use Rattle.json_tree.proofs.laws.one_pointer.Goals as goal

pub returns-clause-value : goal.returns-clause-value
returns-clause-value c = one_pointer

pub returns-clause-spelled : goal.returns-clause-spelled
returns-clause-spelled c = one_pointer

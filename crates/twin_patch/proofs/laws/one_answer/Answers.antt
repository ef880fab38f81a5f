use Rattle.twin_patch.proofs.Once.{one_patch, one_fault, fault_or_patch}
use Rattle.twin_patch.proofs.laws.one_answer.Goals as goal

pub returns-clause-patch : goal.returns-clause-patch
returns-clause-patch c = one_patch

pub returns-clause-fault : goal.returns-clause-fault
returns-clause-fault c = one_fault

pub returns-clause-either : goal.returns-clause-either
returns-clause-either c = fault_or_patch

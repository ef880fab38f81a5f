use Rattle.canon_faults.proofs.DeclaredAgain.{apart_set, declared_set, same_set}
use Rattle.canon_faults.proofs.sets.declared_alike.Goals as goal

pub returns-clause-same : goal.returns-clause-same
returns-clause-same c = same_set

pub returns-clause-declarations : goal.returns-clause-declarations
returns-clause-declarations c = declared_set

pub returns-clause-apart : goal.returns-clause-apart
returns-clause-apart c = apart_set

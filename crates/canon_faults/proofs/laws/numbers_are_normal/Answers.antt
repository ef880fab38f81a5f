use Rattle.json_tree.proofs.DistinctKeys.{spelled_distinct}
use Rattle.local_rules.proofs.NormalForms.{spelled_normal}
use Rattle.canon_faults.proofs.laws.numbers_are_normal.Goals as goal

pub returns-clause-numbers : goal.returns-clause-numbers
returns-clause-numbers c = spelled_normal

pub returns-clause-keys : goal.returns-clause-keys
returns-clause-keys c = spelled_distinct

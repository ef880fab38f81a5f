use Rattle.documents.proofs.Outcomes.{declares_or_fault}
use Rattle.documents.proofs.laws.declaration_or_fault.Goals as goal

pub returns : goal.returns
returns c = declares_or_fault c.value_or_fault.ensures c.breach_or_none.ensures c.breach_or_none-2.ensures c.declaration_is_there.ensures

use Rattle.documents.proofs.batches.Batched.{batches_joined}
use Rattle.documents.proofs.batches.laws.joined.Goals as goal

pub returns : goal.returns
returns c = batches_joined

use Rattle.std.proofs.Common.{refl}
use Rattle.json_tree.specs.View.{view}
use Rattle.documents.proofs.judgement.tree_of.Goals as goal

pub returns-in-Ok : goal.returns-in-Ok
returns-in-Ok c = (c.in-Ok.ensures (view c.in-Ok.tree)).1 refl

use Rattle.json_tree.specs.View.{view}
use Rattle.json_tree.proofs.Tied.{pointer_leads}
use Rattle.json_tree.proofs.pointers.pointer_of.Goals as goal

pub returns-clause-leads : goal.returns-clause-leads
returns-clause-leads c = λ d part stands.
    pointer_leads (view c.args.tree.now) c.args.place.now.steps _ (rw c.as_slice.ensures at c.in_ok-text.ensures) d part stands

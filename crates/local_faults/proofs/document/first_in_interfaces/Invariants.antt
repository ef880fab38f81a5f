use Rattle.json_tree.specs.View.{elements_view}
use Rattle.local_faults.proofs.Documents.{IsClearTo}
use Rattle.local_faults.proofs.document.first_in_interfaces.Given as goal

abbrev pub invariant-loop-at : goal.invariant-loop-at
invariant-loop-at l = IsClearTo (elements_view l.interfaces) l.at

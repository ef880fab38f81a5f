-- What is declared by no content.
use Rattle.std.proofs.Common.{inl, inr, None}
use Rattle.graph_steps.specs.States.{State, Link}
use Rattle.graph_steps.specs.held.Judged.{Unrefused}
use Rattle.graph_judges.specs.links.Machinery.Refused.{RefusesDeclared}

-- Where nothing is declared, nothing is refused by it.
pub none_declared : (s : State) (l : Link) → Unrefused (RefusesDeclared s None l)
none_declared s l r (inl h) = h
none_declared s l r (inr h) = h.1

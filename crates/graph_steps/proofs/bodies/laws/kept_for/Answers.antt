use Rattle.graph_steps.specs.Inherited.{inherited}
use Rattle.graph_steps.specs.States.{set_of}
use Rattle.graph_steps.proofs.bodies.Keeping.{kept_twin, kept_link}
use Rattle.graph_steps.proofs.bodies.laws.kept_for.Goals as goal

pub returns : goal.returns
returns c = record {
  twin = λ s id i v. kept_twin (inherited (set_of s) i) v id i.id;
  link = λ s i source id name target v. kept_link (inherited (set_of s) i) v source id name target;
}

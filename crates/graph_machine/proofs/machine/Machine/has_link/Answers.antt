use Rattle.std.proofs.Common.{◌∙◌, sym, ap}
use Rattle.std.specs.Option.{option_map, option_copied, is_some}
use Rattle.graph_steps.specs.held.Held.{link_of}
use Rattle.graph_machine.proofs.machine.Machine.has_link.Goals as goal

pub returns-in-Some : goal.returns-in-Some
returns-in-Some c = ap is_some (ap (λ o. option_map link_of (option_copied o)) (sym c.in-Some.is) ∙ c.link.ensures.at)

pub returns-in-None : goal.returns-in-None
returns-in-None c = ap is_some (ap (λ o. option_map link_of (option_copied o)) (sym c.in-None.is) ∙ c.link.ensures.at)

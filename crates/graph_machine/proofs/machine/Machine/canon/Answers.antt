use Rattle.std.proofs.Common.{◌∙◌, sym, ap, subst, inr}
use Rattle.dtdl_terms.specs.Sets.{InOrder}
use Rattle.canon_text.specs.Canonical.{set_text}
use Rattle.graph_asks.specs.Answers as answers
use Rattle.model_life.specs.Models.{interfaces_of}
use Rattle.graph_machine.proofs.machine.Machine.canon.Goals as goal

pub set_text-requires : goal.set_text-requires
set_text-requires c = subst InOrder (sym c.set.ensures) c.sound.ensures.ordered

pub returns-clause-allowed : goal.returns-clause-allowed
returns-clause-allowed c = inr ((λ r h. h), ap (λ t. answers.canon t) (c.in_ok-set_text.ensures ∙ ap set_text (c.set.ensures ∙ ap (λ h. interfaces_of h.models) c.self.view_is)))

use Rattle.std.proofs.Common.{◌≡◌, subst}
use Rattle.twin_value.specs.Breaches.{link_called}
use Rattle.graph_steps.specs.Inherited.{contents}
use Rattle.graph_steps.specs.LinkAsks.{LinkFull, Multiplicity, WrongTarget, with_link}
use Rattle.graph_steps.specs.States.{set_of}
use Rattle.graph_steps.specs.bodies.Kept.{link_view}
use Rattle.graph_steps.specs.held.Held.{link_of, state_of}
use Rattle.graph_judges.specs.links.Machinery.Refused.{RefusesDeclared, TellsRefusal}
use Rattle.graph_judges.specs.declared.links.new_link.NewLink.{NewLink}
use Rattle.graph_judges.proofs.links.Glued.{of_two, of_both}
use Rattle.graph_judges.proofs.links.putting.fitting.Goals as goal

pub returns-in-Some-clause-judged : goal.returns-in-Some-clause-judged
returns-in-Some-clause-judged c =
    let s = state_of c.args.lent.now in
    let l = link_view c.args.link in
    let k = link_called c.args.link.name (contents (set_of s) c.args.interface.now) in
    of_two (WrongTarget s k l.target) (Multiplicity s k l.source l.id l.name) (LinkFull (with_link l s) l) c.in-Some.refusal (subst (λ o. TellsRefusal (RefusesDeclared s k l) o) c.in-Some.is c.in_ok-found.ensures.refusal)

pub returns-clause-judged : goal.returns-clause-judged
returns-clause-judged c =
    let s = state_of c.args.lent.now in
    let l = link_view c.args.link in
    let k = link_called c.args.link.name (contents (set_of s) c.args.interface.now) in
    of_both (WrongTarget s k l.target) (Multiplicity s k l.source l.id l.name) (LinkFull (with_link l s) l) (subst (λ o. TellsRefusal (RefusesDeclared s k l) o) c.in_default.is c.in_ok-found.ensures.refusal)
    (λ (new : NewLink). link_of new.edge ≡ l) c.admitted.result c.admitted.ensures.judged

use Rattle.std.proofs.Common.{◌≡◌, MatchResult, subst}
use Rattle.json_tree.specs.View.{view}
use Rattle.twin_value.specs.Breaches.{IsLinkBreach}
use Rattle.graph_steps.specs.Inherited.{inherited}
use Rattle.graph_steps.specs.LinkAsks.{LinkFull, with_link, with_payload}
use Rattle.graph_steps.specs.States.{Link, set_of}
use Rattle.graph_steps.specs.TwinAsks.{BodyFault}
use Rattle.graph_steps.specs.bodies.Bodies.{FailsBy}
use Rattle.graph_steps.specs.held.Held.{link_of, state_of}
use Rattle.graph_steps.specs.held.Judged.{Unrefused}
use Rattle.graph_judges.specs.declared.links.new_link.NewLink.{NewLink}
use Rattle.graph_judges.proofs.links.Glued.{first_fails, later}
use Rattle.graph_judges.proofs.links.Puts.{no_fault}
use Rattle.graph_judges.proofs.links.patching.judged_again.Goals as goal

pub returns-in-Ok-clause-judged : goal.returns-in-Ok-clause-judged
returns-in-Ok-clause-judged c =
    let s = state_of c.args.lent.now in
    let i = c.args.interface.now in
    let v = view c.args.tree.now in
    let l = with_payload s i v (link_of c.args.link.now) in
    let Broken = IsLinkBreach (inherited (set_of s) i) v in
    later (BodyFault Broken v) (LinkFull (with_link l s) l) (λ (new : NewLink). link_of new.edge ≡ l) c.admitted.result (no_fault Broken v c.in-Ok.ensures.link.0)
    (subst (λ (k : Link). MatchResult c.admitted.result (λ new. Unrefused (LinkFull (with_link k s) k) × (link_of new.edge ≡ k)) (FailsBy (LinkFull (with_link k s) k))) c.in-Ok.ensures.link.1 c.admitted.ensures.judged)

pub returns-in-Err-clause-judged : goal.returns-in-Err-clause-judged
returns-in-Err-clause-judged c =
    let s = state_of c.args.lent.now in
    let i = c.args.interface.now in
    let v = view c.args.tree.now in
    let l = with_payload s i v (link_of c.args.link.now) in
    first_fails (BodyFault (IsLinkBreach (inherited (set_of s) i) v) v) (LinkFull (with_link l s) l) c.in-Err.failure c.in-Err.ensures.link

use Rattle.std.proofs.Common.{None, Some, sym, subst}
use Rattle.std.specs.Option.{option_copied}
use Rattle.graph_steps.specs.LinkAsks.{Multiplicity, WrongTarget}
use Rattle.graph_steps.specs.bodies.Kept.{link_view}
use Rattle.graph_steps.specs.held.Held.{state_of}
use Rattle.graph_judges.specs.links.Machinery.Refused.{RefusesDeclared, TellsRefusal}
use Rattle.graph_judges.proofs.links.Declared.{none_declared}
use Rattle.graph_judges.proofs.links.Glued.{told_later}
use Rattle.graph_judges.proofs.links.contents.content_refusal.Goals as goal

pub returns-in_default : goal.returns-in_default
returns-in_default c = subst (λ o. TellsRefusal (RefusesDeclared (state_of c.args.lent.now) (option_copied o) (link_view c.args.link.now)) None) (sym c.in_default.is) (none_declared (state_of c.args.lent.now) (link_view c.args.link.now))

pub returns : goal.returns
returns c =
    let s = state_of c.args.lent.now in
    let l = link_view c.args.link.now in
    let k = Some c.in-Some.content.now in
    subst (λ o. TellsRefusal (RefusesDeclared s (option_copied o) l) c.count_refusal.result) (sym c.in-Some.is)
    (told_later (WrongTarget s k l.target) (Multiplicity s k l.source l.id l.name) (subst (TellsRefusal (WrongTarget s k l.target)) c.in_default-2.is c.in_ok-refusal.ensures) c.count_refusal.result c.count_refusal.ensures)

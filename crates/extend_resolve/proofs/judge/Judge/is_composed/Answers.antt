use Rattle.std.proofs.Common.{◌<◌, length, sym, ap, ◌∙◌, subst}
use Rattle.std.specs.List.{AllByRecursion}
use Rattle.extend_resolve.proofs.Members.{read_option}
use Rattle.extend_resolve.proofs.Judging.{number_below, composed_nodes, links_nodes, composed_tells, composed_put}
use Rattle.extend_resolve.proofs.judge.Judge.is_composed.Goals as goal

pub returns-in-Some-clause-composed : goal.returns-in-Some-clause-composed
returns-in-Some-clause-composed c = c.requires.known c.args.number c.in-Some.known c.in-Some.is

pub any_composed-composed-requires : goal.any_composed-composed-requires
any_composed-composed-requires c =
    subst (AllByRecursion (λ y. y < length c.args.self.now.world.composed.items)) (sym c.as_slice.ensures.value)
    (subst (λ n. AllByRecursion (λ y. y < n) c.in_ok-ancestors.ancestors.items) (sym (composed_nodes c.args.self.now c.requires.judge))
    (number_below c.args.self.now c.requires.judge c.args.number c.in_ok-ancestors.ancestors.items c.requires.within c.in_ok-ancestors.ensures.behind))

pub returns-clause-known : goal.returns-clause-known
returns-clause-known c =
    composed_put c.args.self.now.world.links.items c.args.self.now.world.composed.items c.args.known.now c.args.number c.any_composed-composed.result
    (subst (λ n. c.args.number < n) (sym (c.requires.size ∙ links_nodes c.args.self.now c.requires.judge)) c.requires.within) c.requires.known
    (composed_tells c.args.self.now.world.links.items c.args.self.now.world.composed.items c.args.number c.as_slice.result.now c.in_ok-ancestors.ancestors.items c.any_composed-composed.result
    c.in_ok-ancestors.ensures.behind c.as_slice.ensures.value c.any_composed-composed.ensures)

pub returns-clause-composed : goal.returns-clause-composed
returns-clause-composed c =
    composed_tells c.args.self.now.world.links.items c.args.self.now.world.composed.items c.args.number c.as_slice.result.now c.in_ok-ancestors.ancestors.items c.any_composed-composed.result
    c.in_ok-ancestors.ensures.behind c.as_slice.ensures.value c.any_composed-composed.ensures

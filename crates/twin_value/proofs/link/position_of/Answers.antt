use Rattle.std.proofs.Common.{ℕ, List, ap, sym, ◌∙◌, add-one, arith, bytes_eq, drop}
use Rattle.json_tree.specs.View.{members_view}
use Rattle.json_tree.specs.declared.tree.Member.{Member}
use Rattle.twin_value.specs.Breaches.{key_position}
use Rattle.twin_value.proofs.Linked.{untrue, unfalse, position_next, position_here, position_past}
use Rattle.twin_value.proofs.link.position_of.Goals as goal

pub members-preserved : goal.members-preserved
members-preserved c =
    let other = ap (λ (m : Member). bytes_eq m.key c.args.key.now) c.index-members-at.is ∙ (ap (λ (t : List ℕ). bytes_eq t c.args.key.now) (sym c.as_str.ensures) ∙ untrue _ (sym c.ne.ensures ∙ c.if-ne.true)) in
    let next = position_next c.args.key.now c.args.members.now c.members.at c.index-members-at.result c.members-test.true c.index-members-at.is other in
    let moved = ap (λ (n : ℕ). key_position c.args.key.now (members_view (drop n c.args.members.now))) (add-one c.members.at) in
    let before = c.members.invariant.1 in
    (omega arith, omega (arith, next, moved, before))

pub returns-else-ne : goal.returns-else-ne
returns-else-ne c =
    let same = ap (λ (m : Member). bytes_eq m.key c.args.key.now) c.index-members-at.is ∙ (ap (λ (t : List ℕ). bytes_eq t c.args.key.now) (sym c.as_str.ensures) ∙ unfalse _ (sym c.ne.ensures ∙ c.if-ne.false)) in
    let here = position_here c.args.key.now c.args.members.now c.members.at c.index-members-at.result c.members-test.true c.index-members-at.is same in
    let before = c.members.invariant.1 in
    omega (arith, here, before)

pub returns-after-members : goal.returns-after-members
returns-after-members c =
    let past = position_past c.args.key.now c.args.members.now c.members.at c.members-test.false in
    let before = c.members.invariant.1 in
    omega (arith, past, before)

use Rattle.std.proofs.Common.{ap, sym, subst, ◌∙◌, arith}
use Rattle.json_tree.specs.Values.{object}
use Rattle.json_tree.specs.View.{view, members_view}
use Rattle.json_tree.proofs.Parts.{member_part, value_within}
use Rattle.twin_value.specs.Machinery.Views.{role_view, keys_role}
use Rattle.twin_value.specs.Machinery.Outer.{IsMild}
use Rattle.twin_value.proofs.Outermost.{outer_start, outer_in_part, outer_not_in_part, outer_all}
use Rattle.twin_value.proofs.outer.outer_under.Goals as goal

pub loop-at-init : goal.loop-at-init
loop-at-init c = λ r h. outer_start r (object (members_view c.args.members.now))

pub outer_in_member-requires : goal.outer_in_member-requires
outer_in_member-requires c = subst IsMild (ap (keys_role c.args.keys.now) (sym c.as_str.ensures) ∙ sym c.role-part.ensures) (c.requires c.index-members-at.result.key)

pub returns-in-Some : goal.returns-in-Some
returns-in-Some c = λ r h.
    let part = member_part c.args.members.now c.loop-at.at c.index-members-at.result c.loop-at-test.true c.index-members-at.is in
    let role = sym (h c.index-members-at.result.key) ∙ (ap (keys_role c.args.keys.now) (sym c.as_str.ensures) ∙ sym c.role-part.ensures) in
    outer_in_part r (object (members_view c.args.members.now)) c.loop-at.at (role_view c.role-part.result) (view c.index-members-at.result.value) c.in-Some.found c.in_ok-found-2.found c.in_ok-found.field-0
    (c.loop-at.invariant r h) (c.index-members-at.result.key, part, role) c.in_ok-found.ensures c.in-Some.is c.in_ok-found-2.ensures

pub loop-at-preserved : goal.loop-at-preserved
loop-at-preserved c = λ r h.
    let part = member_part c.args.members.now c.loop-at.at c.index-members-at.result c.loop-at-test.true c.index-members-at.is in
    let role = sym (h c.index-members-at.result.key) ∙ (ap (keys_role c.args.keys.now) (sym c.as_str.ensures) ∙ sym c.role-part.ensures) in
    outer_not_in_part r (object (members_view c.args.members.now)) c.loop-at.at (role_view c.role-part.result) (view c.index-members-at.result.value) c.in_ok-found.field-0
    (c.loop-at.invariant r h) (c.index-members-at.result.key, part, role) c.in_ok-found.ensures c.in_default.is

pub returns : goal.returns
returns c = λ r h.
    outer_all r (object (members_view c.args.members.now)) c.loop-at.at (c.loop-at.invariant r h)
    (λ i s part p. let w = value_within c.args.members.now i _ p.1 in omega (arith, w, c.loop-at-test.false))

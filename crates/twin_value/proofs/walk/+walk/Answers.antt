use Rattle.std.proofs.Common.{ap, sym, ◌∙◌, arith}
use Rattle.std.proofs.lemmas.Result.{IfOk-weaker}
use Rattle.json_tree.specs.Values.{array, object}
use Rattle.json_tree.specs.View.{view, elements_view, members_view}
use Rattle.json_tree.proofs.Views.{view-List, view-Members}
use Rattle.json_tree.proofs.Parts.{item_part, member_part, item_within, value_within}
use Rattle.twin_value.specs.Machinery.Views.{role_view, keys_role}
use Rattle.twin_value.proofs.Walked.{clear_start, judged_so, leaf_after, found_in_part, none_in_part, walked_all}
use Rattle.twin_value.proofs.Sounded.{first_of_parts, sound_of_parts, elements_next, members_next, elements_done, members_done}
use Rattle.twin_value.proofs.walk.+walk.Goals as goal

pub first_in-returns-in-Some-clause-first : goal.first_in-returns-in-Some-clause-first
first_in-returns-in-Some-clause-first t c =
    judged_so (role_view c.args.role) (view c.args.tree.now) c.new.result.items c.in-Some.code c.broken_by.result c.broken_by.ensures.first c.in-Some.is c.new.ensures.items

pub first_in-returns-in-List-clause-first : goal.first_in-returns-in-List-clause-first
first_in-returns-in-List-clause-first t c =
    let e = ap view c.in-List.is ∙ view-List c.in-List.elements ∙ ap (λ es. array (elements_view es)) (sym c.as_slice.ensures) in
    first_of_parts (role_view c.args.role) (view c.args.tree.now) (array (elements_view c.as_slice.result.now)) c.broken_by.result c.first_in_elements.result c.broken_by.ensures.first c.in_default.is e c.first_in_elements.ensures.first

pub first_in-returns-in-List-clause-sound : goal.first_in-returns-in-List-clause-sound
first_in-returns-in-List-clause-sound t c =
    let e = ap view c.in-List.is ∙ view-List c.in-List.elements ∙ ap (λ es. array (elements_view es)) (sym c.as_slice.ensures) in
    sound_of_parts (role_view c.args.role) (view c.args.tree.now) (array (elements_view c.as_slice.result.now)) c.first_in_elements.result (c.broken_by.ensures.sound c.in_default.is) e c.first_in_elements.ensures.sound

pub first_in-returns-in-Members-clause-first : goal.first_in-returns-in-Members-clause-first
first_in-returns-in-Members-clause-first t c =
    let e = ap view c.in-Members.is ∙ view-Members c.in-Members.members ∙ ap (λ es. object (members_view es)) (sym c.as_slice-in-Members.ensures) in
    first_of_parts (role_view c.args.role) (view c.args.tree.now) (object (members_view c.as_slice-in-Members.result.now)) c.broken_by.result c.first_in_members.result c.broken_by.ensures.first c.in_default.is e c.first_in_members.ensures.first

pub first_in-returns-in-Members-clause-sound : goal.first_in-returns-in-Members-clause-sound
first_in-returns-in-Members-clause-sound t c =
    let e = ap view c.in-Members.is ∙ view-Members c.in-Members.members ∙ ap (λ es. object (members_view es)) (sym c.as_slice-in-Members.ensures) in
    sound_of_parts (role_view c.args.role) (view c.args.tree.now) (object (members_view c.as_slice-in-Members.result.now)) c.first_in_members.result (c.broken_by.ensures.sound c.in_default.is) e c.first_in_members.ensures.sound

pub first_in-returns-in-Null-clause-first : goal.first_in-returns-in-Null-clause-first
first_in-returns-in-Null-clause-first t c = leaf_after (role_view c.args.role) c.args.tree.now c.broken_by.result c.broken_by.ensures.first c.in_default.is c.in-Null.is

pub first_in_elements-returns-in-Some-clause-first : goal.first_in_elements-returns-in-Some-clause-first
first_in_elements-returns-in-Some-clause-first t c =
    let part = item_part c.args.elements.now c.loop-at.at c.index-elements-at.result c.loop-at-test.true c.index-elements-at.is in
    found_in_part (role_view c.args.role) (array (elements_view c.args.elements.now)) c.loop-at.at (role_view c.element-part.result) (view c.index-elements-at.result) c.in-Some.found c.in_ok-found-2.found c.in_ok-found.field-0
    c.loop-at.invariant.0 (part, sym c.element-part.ensures) c.in_ok-found.ensures.first c.in-Some.is c.in_ok-found-2.ensures

pub first_in_elements-loop-at-preserved : goal.first_in_elements-loop-at-preserved
first_in_elements-loop-at-preserved t c =
    let part = item_part c.args.elements.now c.loop-at.at c.index-elements-at.result c.loop-at-test.true c.index-elements-at.is in (
      none_in_part (role_view c.args.role) (array (elements_view c.args.elements.now)) c.loop-at.at (role_view c.element-part.result) (view c.index-elements-at.result) c.in_ok-found.field-0
          c.loop-at.invariant.0 (part, sym c.element-part.ensures) c.in_ok-found.ensures.first c.in_default.is,
      elements_next (role_view c.args.role) (role_view c.element-part.result) c.args.elements.now c.loop-at.at c.index-elements-at.result c.loop-at-test.true c.index-elements-at.is
          c.element-part.ensures c.loop-at.invariant.1 (c.in_ok-found.ensures.sound c.in_default.is),
    )

pub first_in_elements-returns-clause-first : goal.first_in_elements-returns-clause-first
first_in_elements-returns-clause-first t c =
    walked_all (role_view c.args.role) (array (elements_view c.args.elements.now)) c.loop-at.at c.loop-at.invariant.0
    (λ i s part p. let h = item_within c.args.elements.now i part p.0 in omega (arith, h, c.loop-at-test.false))

pub first_in_elements-returns-clause-sound : goal.first_in_elements-returns-clause-sound
first_in_elements-returns-clause-sound t c = λ none alone.
    elements_done (role_view c.args.role) c.args.elements.now c.loop-at.at c.loop-at-test.false c.loop-at.invariant.1 alone

pub first_in_members-returns-clause-first : goal.first_in_members-returns-clause-first
first_in_members-returns-clause-first t c = IfOk-weaker c.first_under-found.result _ _ (λ found h. h (role_view c.args.role) c.in_ok-keys.ensures) c.first_under-found.ensures.first

pub first_in_members-returns-clause-sound : goal.first_in_members-returns-clause-sound
first_in_members-returns-clause-sound t c = IfOk-weaker c.first_under-found.result _ _ (λ found h none. h none (role_view c.args.role) c.in_ok-keys.ensures) c.first_under-found.ensures.sound

pub first_under-returns-in-Some-clause-first : goal.first_under-returns-in-Some-clause-first
first_under-returns-in-Some-clause-first t c = λ r h.
    let part = member_part c.args.members.now c.loop-at.at c.index-members-at.result c.loop-at-test.true c.index-members-at.is in
    let role = sym (h c.index-members-at.result.key) ∙ (ap (keys_role c.args.keys.now) (sym c.as_str.ensures) ∙ sym c.role-part.ensures) in
    found_in_part r (object (members_view c.args.members.now)) c.loop-at.at (role_view c.role-part.result) (view c.index-members-at.result.value) c.in-Some.found c.in_ok-found-2.found c.in_ok-found.field-0
    (c.loop-at.invariant r h).0 (c.index-members-at.result.key, part, role) c.in_ok-found.ensures.first c.in-Some.is c.in_ok-found-2.ensures

pub first_under-loop-at-init : goal.first_under-loop-at-init
first_under-loop-at-init t c = λ r h. (clear_start r (object (members_view c.args.members.now)), tt)

pub first_under-loop-at-preserved : goal.first_under-loop-at-preserved
first_under-loop-at-preserved t c = λ r h.
    let part = member_part c.args.members.now c.loop-at.at c.index-members-at.result c.loop-at-test.true c.index-members-at.is in
    let role = sym (h c.index-members-at.result.key) ∙ (ap (keys_role c.args.keys.now) (sym c.as_str.ensures) ∙ sym c.role-part.ensures) in (
      none_in_part r (object (members_view c.args.members.now)) c.loop-at.at (role_view c.role-part.result) (view c.index-members-at.result.value) c.in_ok-found.field-0
          (c.loop-at.invariant r h).0 (c.index-members-at.result.key, part, role) c.in_ok-found.ensures.first c.in_default.is,
      members_next r (role_view c.role-part.result) c.args.members.now c.loop-at.at c.index-members-at.result c.loop-at-test.true c.index-members-at.is
          role (c.loop-at.invariant r h).1 (c.in_ok-found.ensures.sound c.in_default.is),
    )

pub first_under-returns-clause-first : goal.first_under-returns-clause-first
first_under-returns-clause-first t c = λ r h.
    walked_all r (object (members_view c.args.members.now)) c.loop-at.at (c.loop-at.invariant r h).0
    (λ i s part p. let w = value_within c.args.members.now i _ p.1 in omega (arith, w, c.loop-at-test.false))

pub first_under-returns-clause-sound : goal.first_under-returns-clause-sound
first_under-returns-clause-sound t c = λ none r h alone.
    members_done r c.args.members.now c.loop-at.at c.loop-at-test.false (c.loop-at.invariant r h).1 alone

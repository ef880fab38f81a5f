use Rattle.std.proofs.Common.{ap, sym, ◌∙◌, refl, arith}
use Rattle.json_tree.specs.Values.{array, object}
use Rattle.json_tree.specs.View.{view, elements_view, members_view}
use Rattle.json_tree.proofs.Views.{view-List, view-Members}
use Rattle.local_faults.proofs.Walked.{walked_all}
use Rattle.json_tree.proofs.Parts.{item_part, member_part}
use Rattle.local_faults.proofs.Parts.{item_within, member_within, member_is_marked, entry_is_marked, no_text_array, no_text_object}
use Rattle.local_faults.proofs.Answered.{ended_after, leaf_after, leaf_any, judged_so, found_in_part, none_in_part}
use Rattle.local_faults.proofs.walk.+walk.Goals as goal

pub first_in-returns-in-Some : goal.first_in-returns-in-Some
first_in-returns-in-Some t c =
    judged_so (members_view c.args.schemas.now) c.args.ids.now c.judge.new.ids c.judge.new.ids c.args.marked (view c.args.tree.now) c.clear.new.self c.in-Some.rule c.in_ok-rule.field-0 c.in_ok-rule.ensures c.in-Some.is c.clear.ensures.items

pub first_in-returns-in-List : goal.first_in-returns-in-List
first_in-returns-in-List t c =
    let e = ap view c.in-List.is ∙ view-List c.in-List.entries ∙ ap (λ es. array (elements_view es)) (sym c.as_slice.ensures) in
    ended_after (members_view c.args.schemas.now) c.args.ids.now c.judge.new.ids c.first_in_entries.new.ids c.args.marked (view c.args.tree.now) (array (elements_view c.as_slice.result.now)) c.in_ok-rule.field-0 c.in_ok-rule.ensures c.in_default.is e (no_text_array (elements_view c.as_slice.result.now)) c.first_in_entries.new.steps c.first_in_entries.result c.first_in_entries.ensures

pub first_in-returns-in-Members : goal.first_in-returns-in-Members
first_in-returns-in-Members t c =
    let e = ap view c.in-Members.is ∙ view-Members c.in-Members.members ∙ ap (λ es. object (members_view es)) (sym c.as_slice-in-Members.ensures) in
    ended_after (members_view c.args.schemas.now) c.args.ids.now c.judge.new.ids c.first_in_members.new.ids c.args.marked (view c.args.tree.now) (object (members_view c.as_slice-in-Members.result.now)) c.in_ok-rule.field-0 c.in_ok-rule.ensures c.in_default.is e (no_text_object (members_view c.as_slice-in-Members.result.now)) c.first_in_members.new.steps c.first_in_members.result c.first_in_members.ensures

pub first_in-returns-in-Null : goal.first_in-returns-in-Null
first_in-returns-in-Null t c =
    leaf_after (members_view c.args.schemas.now) c.args.ids.now c.judge.new.ids c.args.marked (view c.args.tree.now) _ c.in_ok-rule.field-0 c.in_ok-rule.ensures c.in_default.is refl (leaf_any c.args.tree.now c.in-Null.is)

pub first_in-returns-in-Null-2 : goal.first_in-returns-in-Null-2
first_in-returns-in-Null-2 t c =
    leaf_after (members_view c.args.schemas.now) c.args.ids.now c.judge.new.ids c.args.marked (view c.args.tree.now) _ c.in_ok-rule.field-0 c.in_ok-rule.ensures c.in_default.is refl (leaf_any c.args.tree.now c.in-Null.is)

pub first_in-returns-in-Null-3 : goal.first_in-returns-in-Null-3
first_in-returns-in-Null-3 t c =
    leaf_after (members_view c.args.schemas.now) c.args.ids.now c.judge.new.ids c.args.marked (view c.args.tree.now) _ c.in_ok-rule.field-0 c.in_ok-rule.ensures c.in_default.is refl (leaf_any c.args.tree.now c.in-Null.is)

pub first_in-returns-in-Null-4 : goal.first_in-returns-in-Null-4
first_in-returns-in-Null-4 t c =
    leaf_after (members_view c.args.schemas.now) c.args.ids.now c.judge.new.ids c.args.marked (view c.args.tree.now) _ c.in_ok-rule.field-0 c.in_ok-rule.ensures c.in_default.is refl (leaf_any c.args.tree.now c.in-Null.is)

pub first_in_entries-returns-in-Some : goal.first_in_entries-returns-in-Some
first_in_entries-returns-in-Some t c =
    let part = item_part c.args.entries.now c.loop-at.at c.index-entries-at.result c.loop-at-test.true c.index-entries-at.is in
    let role = entry_is_marked c.args.marked c.args.entries.now c.loop-at.at c.at-part.result c.in_ok-marks.marks.list c.in_ok-marks.marks.entries.now c.in_ok-marks.ensures.list c.in_ok-marks.ensures.entries c.at-part.ensures in
    found_in_part (members_view c.args.schemas.now) c.args.ids.now c.loop-at.ids c.first_in_part.new.ids c.first_in_part.new.ids c.args.marked (array (elements_view c.args.entries.now)) c.loop-at.at c.at-part.result (view c.index-entries-at.result) c.first_in_part.new.steps c.way_up.new.steps c.in-Some.rule c.in_ok-rule.field-0
    c.loop-at.invariant part role c.in_ok-rule.ensures c.in-Some.is c.way_up.result c.way_up.ensures

pub first_in_entries-loop-at-preserved : goal.first_in_entries-loop-at-preserved
first_in_entries-loop-at-preserved t c =
    let part = item_part c.args.entries.now c.loop-at.at c.index-entries-at.result c.loop-at-test.true c.index-entries-at.is in
    let role = entry_is_marked c.args.marked c.args.entries.now c.loop-at.at c.at-part.result c.in_ok-marks.marks.list c.in_ok-marks.marks.entries.now c.in_ok-marks.ensures.list c.in_ok-marks.ensures.entries c.at-part.ensures in
    none_in_part (members_view c.args.schemas.now) c.args.ids.now c.loop-at.ids c.first_in_part.new.ids c.args.marked (array (elements_view c.args.entries.now)) c.loop-at.at c.at-part.result (view c.index-entries-at.result) c.first_in_part.new.steps c.in_ok-rule.field-0
    c.loop-at.invariant part role c.in_ok-rule.ensures c.in_default.is

pub first_in_entries-returns : goal.first_in_entries-returns
first_in_entries-returns t c = λ here.
    walked_all (members_view c.args.schemas.now) c.args.ids.now c.loop-at.ids c.args.marked (array (elements_view c.args.entries.now)) c.loop-at.at c.loop-at.invariant here (no_text_array (elements_view c.args.entries.now))
    (λ i part p. let h = item_within c.args.entries.now i part p in omega (arith, h, c.loop-at-test.false))

pub first_in_members-returns-in-Some : goal.first_in_members-returns-in-Some
first_in_members-returns-in-Some t c =
    let part = member_part c.args.members.now c.loop-at.at c.index-members-at.result c.loop-at-test.true c.index-members-at.is in
    let role = member_is_marked c.args.marked (members_view c.args.members.now) c.loop-at.at c.index-members-at.result.key (view c.index-members-at.result.value) c.element_of-element.result c.as_str.result.now c.of_member-part.result part c.element_of-element.ensures c.as_str.ensures c.of_member-part.ensures in
    found_in_part (members_view c.args.schemas.now) c.args.ids.now c.loop-at.ids c.first_in_part.new.ids c.first_in_part.new.ids c.args.marked (object (members_view c.args.members.now)) c.loop-at.at c.of_member-part.result (view c.index-members-at.result.value) c.first_in_part.new.steps c.way_up.new.steps c.in-Some.rule c.in_ok-rule.field-0
    c.loop-at.invariant (c.index-members-at.result.key, part) role c.in_ok-rule.ensures c.in-Some.is c.way_up.result c.way_up.ensures

pub first_in_members-loop-at-preserved : goal.first_in_members-loop-at-preserved
first_in_members-loop-at-preserved t c =
    let part = member_part c.args.members.now c.loop-at.at c.index-members-at.result c.loop-at-test.true c.index-members-at.is in
    let role = member_is_marked c.args.marked (members_view c.args.members.now) c.loop-at.at c.index-members-at.result.key (view c.index-members-at.result.value) c.element_of-element.result c.as_str.result.now c.of_member-part.result part c.element_of-element.ensures c.as_str.ensures c.of_member-part.ensures in
    none_in_part (members_view c.args.schemas.now) c.args.ids.now c.loop-at.ids c.first_in_part.new.ids c.args.marked (object (members_view c.args.members.now)) c.loop-at.at c.of_member-part.result (view c.index-members-at.result.value) c.first_in_part.new.steps c.in_ok-rule.field-0
    c.loop-at.invariant (c.index-members-at.result.key, part) role c.in_ok-rule.ensures c.in_default.is

pub first_in_members-returns : goal.first_in_members-returns
first_in_members-returns t c = λ here.
    walked_all (members_view c.args.schemas.now) c.args.ids.now c.loop-at.ids c.args.marked (object (members_view c.args.members.now)) c.loop-at.at c.loop-at.invariant here (no_text_object (members_view c.args.members.now))
    (λ i part p. let h = member_within c.args.members.now i part p in omega (arith, h, c.loop-at-test.false))

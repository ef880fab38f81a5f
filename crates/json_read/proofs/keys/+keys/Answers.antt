use Rattle.std.proofs.Common.{◌<◌, ◌∙◌, arith}
use Rattle.json_tree.specs.Values.{array, object}
use Rattle.json_tree.specs.View.{view, elements_view, members_view}
use Rattle.json_tree.proofs.Views.{view-Null, view-Bool, view-Number, view-Text, view-List, view-Members}
use Rattle.json_tree.proofs.Parts.{item_part, member_part, item_within, value_within}
use Rattle.json_read.proofs.Duplicates.{none_in_leaf, found_in, found_repeat, clear_more, clear_all}
use Rattle.json_read.proofs.Repeats.{member_new_key, member_old_key}
use Rattle.json_read.proofs.keys.+keys.Goals as goal

pub first_duplicate-returns-in-List : goal.first_duplicate-returns-in-List
first_duplicate-returns-in-List t c =
    let e = rw c.as_slice.ensures at c.first_in_items.ensures in
    rw (c.in-List.is, view-List c.in-List.items) e

pub first_duplicate-returns-in_ok-repeat-in-Members : goal.first_duplicate-returns-in_ok-repeat-in-Members
first_duplicate-returns-in_ok-repeat-in-Members t c =
    let e = rw c.as_slice-members.ensures at c.first_in_members.ensures in
    rw (c.in-Members.is, view-Members c.in-Members.members) e

pub first_duplicate-returns-in-Null : goal.first_duplicate-returns-in-Null
first_duplicate-returns-in-Null t c = rw (c.in-Null.is, view-Null) (none_in_leaf _ (λ i part p. p))

pub first_duplicate-returns-in-Bool : goal.first_duplicate-returns-in-Bool
first_duplicate-returns-in-Bool t c = rw (c.in-Bool.is, view-Bool c.in-Bool.field-0) (none_in_leaf _ (λ i part p. p))

pub first_duplicate-returns-in-Number : goal.first_duplicate-returns-in-Number
first_duplicate-returns-in-Number t c = rw (c.in-Number.is, view-Number c.in-Number.field-0) (none_in_leaf _ (λ i part p. p))

pub first_duplicate-returns-in-Text : goal.first_duplicate-returns-in-Text
first_duplicate-returns-in-Text t c = rw (c.in-Text.is, view-Text c.in-Text.field-0) (none_in_leaf _ (λ i part p. p))

pub first_in_items-returns-in-Some : goal.first_in_items-returns-in-Some
first_in_items-returns-in-Some t c =
    let first = rw c.in-Some.is at c.in_ok-steps.ensures in
    let part = item_part c.args.items.now c.loop-at.at c.index-items-at.result c.loop-at-test.true c.index-items-at.is in
    rw c.in_ok-push.ensures.items (found_in (array (elements_view c.args.items.now)) c.loop-at.at (view c.index-items-at.result) c.in-Some.steps.items part (λ r. r) c.loop-at.invariant first)

pub first_in_items-loop-at-preserved : goal.first_in_items-loop-at-preserved
first_in_items-loop-at-preserved t c =
    let none = rw c.in_default.is at c.in_ok-steps.ensures in
    let part = item_part c.args.items.now c.loop-at.at c.index-items-at.result c.loop-at-test.true c.index-items-at.is in
    clear_more (array (elements_view c.args.items.now)) c.loop-at.at (view c.index-items-at.result) part (λ r. r) c.loop-at.invariant none

pub first_in_items-returns : goal.first_in_items-returns
first_in_items-returns t c =
    clear_all (array (elements_view c.args.items.now)) c.loop-at.at c.loop-at.invariant
    (λ i part e. let h = item_within c.args.items.now i part e in omega (arith, h, c.loop-at-test.false))

pub first_in_members-returns-then-at-repeat : goal.first_in_members-returns-then-at-repeat
first_in_members-returns-then-at-repeat t c =
    let here = member_old_key c.args.members.now c.loop-at.at (c.if-at-repeat.true ∙ c.requires) c.loop-at-test.true in
    rw (c.in_ok-push.ensures.items, c.new-steps.ensures.items) (found_repeat (object (members_view c.args.members.now)) c.loop-at.at c.loop-at.invariant.clear here)

pub first_in_members-returns-in-Some : goal.first_in_members-returns-in-Some
first_in_members-returns-in-Some t c =
    let first = rw c.in-Some.is at c.in_ok-steps.ensures in
    let part = member_part c.args.members.now c.loop-at.at c.index-members-at.result c.loop-at-test.true c.index-members-at.is in
    let less : c.loop-at.at < c.args.repeat = omega (arith, c.loop-at.invariant.before, c.if-at-repeat.false) in
    let new = member_new_key c.args.members.now c.loop-at.at (rw (← c.requires) less) in
    rw c.in_ok-push-2.ensures.items (found_in (object (members_view c.args.members.now)) c.loop-at.at (view c.index-members-at.result.value) c.in-Some.steps.items (c.index-members-at.result.key, part) new c.loop-at.invariant.clear first)

pub first_in_members-loop-at-preserved : goal.first_in_members-loop-at-preserved
first_in_members-loop-at-preserved t c =
    let none = rw c.in_default.is at c.in_ok-steps.ensures in
    let part = member_part c.args.members.now c.loop-at.at c.index-members-at.result c.loop-at-test.true c.index-members-at.is in
    let less : c.loop-at.at < c.args.repeat = omega (arith, c.loop-at.invariant.before, c.if-at-repeat.false) in
    let new = member_new_key c.args.members.now c.loop-at.at (rw (← c.requires) less) in
    record {
      before = omega (arith, less);
      clear = clear_more (object (members_view c.args.members.now)) c.loop-at.at (view c.index-members-at.result.value) (c.index-members-at.result.key, part) new c.loop-at.invariant.clear none;
    }

pub first_in_members-returns : goal.first_in_members-returns
first_in_members-returns t c =
    clear_all (object (members_view c.args.members.now)) c.loop-at.at c.loop-at.invariant.clear
    (λ i part p. let h = value_within c.args.members.now i (p.0, part) p.1 in omega (arith, h, c.loop-at-test.false))

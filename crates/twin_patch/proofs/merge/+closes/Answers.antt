use Rattle.std.proofs.Common.{◌≡◌, ◌∷◌, ℕ, List, Option, refl, sym, ap, ◌∙◌, subst}
use Rattle.std.specs.Map.{keys_of}
use Rattle.std.specs.List.Sorted.{IsStrictlySortedBy}
use Rattle.json_decimal.specs.Number.{Number}
use Rattle.json_tree.specs.Values.{Json, object, Members, member}
use Rattle.json_tree.specs.View.{members_view}
use Rattle.json_tree.specs.declared.tree.Member.{Member}
use Rattle.twin_patch.specs.Machinery.Drafts.{overlaid, draft_view, members_behind, front}
use Rattle.twin_patch.specs.Machinery.Orders.{compared_keys}
use Rattle.twin_patch.specs.declared.draft.Draft.{Draft}
use Rattle.twin_patch.proofs.Overlays.{rise_by}
use Rattle.twin_patch.proofs.Drafts.{view_whole, view_edited}
use Rattle.twin_patch.proofs.Merges.{behind_one, behind_all, order_split}
use Rattle.twin_patch.proofs.merge.+closes.Goals as goal

pub close_into-returns-in_ok-push-in-Whole : goal.close_into-returns-in_ok-push-in-Whole
close_into-returns-in_ok-push-in-Whole t c = λ ms.
    let m : Member = record { key = c.args.key; value = c.in-Whole.value } in
    let out = c.args.out.now.items in
    ap (λ (o : List Member). members_behind o ms) c.in_ok-push-in-Whole.ensures.items ∙ behind_one out m ms
    ∙ ap (λ (x : Option Json). members_behind out (front c.args.key x ms)) (sym (ap draft_view c.in-Whole.is ∙ view_whole c.in-Whole.value))

pub close_into-returns-in_ok-push-in-Edited : goal.close_into-returns-in_ok-push-in-Edited
close_into-returns-in_ok-push-in-Edited t c = λ ms.
    let m : Member = record { key = c.args.key; value = c.object_of-value.result } in
    let out = c.args.out.now.items in
    ap (λ (o : List Member). members_behind o ms) c.in_ok-push-in-Edited.ensures.items ∙ behind_one out m ms
    ∙ ap (λ (v : Json). members_behind out (member c.args.key v ms)) (c.object_of-value.ensures ∙ ap object c.in_ok-members-in-Edited.ensures)
    ∙ ap (λ (x : Option Json). members_behind out (front c.args.key x ms)) (sym (ap draft_view c.in-Edited.is ∙ view_edited c.in-Edited.base c.in-Edited.edits))

pub merged-edits-init : goal.merged-edits-init
merged-edits-init t c =
    let gives = c.into_iter-key-iterator.ensures.into_iter_gives in
    record {
      next = tt;
      finite = tt;
      rise = rw c.from-members.ensures.0 (rise_by (members_view c.args.base.members.items) c.args.base.rise);
      ordered = rw gives.0 c.len-2.ensures.ordered;
      total = rw (c.in_ok-out.ensures.items, gives.0, c.from-members.ensures.0) refl;
    }

pub merged-edits-preserved : goal.merged-edits-preserved
merged-edits-preserved t c =
    let k = c.in-Some.key in
    let x = c.in-Some.entry in
    let more = c.next.new.self in
    let steps : c.edits.key-iterator ≡ (k, x) ∷ more = c.in-Some.ensures.steps in
    let order = order_split k x more (subst (λ (es : List (List ℕ × Draft)). IsStrictlySortedBy compared_keys (keys_of es)) steps c.edits.invariant.ordered) in
    record {
      next = tt;
      finite = tt;
      rise = c.skip.ensures.rise;
      ordered = order.1;
      total = c.in_ok-close_into.ensures (overlaid draft_view more (members_view c.skip.new.members.items))
          ∙ ap (λ (ms : Members Number). members_behind c.pass.new.out.items ms) (sym (c.skip.ensures.same x more order.0)) ∙ c.in_ok-pass.ensures.same x more order.0
          ∙ ap (λ (es : List (List ℕ × Draft)). members_behind c.edits.out.items (overlaid draft_view es (members_view c.edits.members.items))) (sym steps) ∙ c.edits.invariant.total;
    }

pub merged-returns : goal.merged-returns
merged-returns t c =
    let out = c.edits.out.items in
    ap members_view c.in_ok-append.ensures.items ∙ behind_all out c.from-rest.result.items ∙ ap (λ (l : List Member). members_behind out (members_view l)) c.from-rest.ensures.0
    ∙ ap (λ (es : List (List ℕ × Draft)). members_behind out (overlaid draft_view es (members_view c.edits.members.items))) (sym c.in-None.ensures.steps.0) ∙ c.edits.invariant.total

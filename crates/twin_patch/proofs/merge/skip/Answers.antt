use Rattle.std.proofs.Common.{◌≡◌, List, Bool, true, false, sym, ap, ◌∙◌}
use Rattle.json_tree.specs.View.{members_view}
use Rattle.json_tree.specs.declared.tree.Member.{Member}
use Rattle.twin_patch.specs.Machinery.Drafts.{overlaid, draft_view, front}
use Rattle.twin_patch.proofs.Fronts.{own_skipped, past_before, other_skipped}
use Rattle.twin_patch.proofs.merge.skip.Goals as goal

untrue : (b : Bool) → b ≡ true → b ≡ false → ⊥
untrue b holds fails = let f : true ≡ false = sym holds ∙ fails in absurd cc

pub returns-then-is_front_at-clause-same : goal.returns-then-is_front_at-clause-same
returns-then-is_front_at-clause-same c = λ x more after.
    own_skipped c.args.key.now c.args.members.now.items x more (c.is_front_at.ensures.0 c.if-is_front_at.true) after
    ∙ ap (λ (l : List Member). front c.args.key.now (draft_view x) (overlaid draft_view more (members_view l))) (sym c.pop_front-member.ensures.rest)

pub returns-else-is_front_at-clause-before : goal.returns-else-is_front_at-clause-before
returns-else-is_front_at-clause-before c =
    past_before c.args.key.now (members_view c.args.members.now.items) c.requires.rise c.requires.past (λ at. untrue c.is_front_at.result (c.is_front_at.ensures.1 at) c.if-is_front_at.false)

pub returns-else-is_front_at-clause-same : goal.returns-else-is_front_at-clause-same
returns-else-is_front_at-clause-same c = λ x more after.
    other_skipped c.args.key.now (members_view c.args.members.now.items) x more c.requires.rise c.requires.past (λ at. untrue c.is_front_at.result (c.is_front_at.ensures.1 at) c.if-is_front_at.false) after

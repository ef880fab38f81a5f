use Rattle.std.proofs.Common.{◌≡◌, ◌∷◌, List, ap, ◌∙◌}
use Rattle.json_tree.specs.View.{members_view}
use Rattle.json_tree.specs.declared.tree.Member.{Member}
use Rattle.twin_patch.specs.Machinery.Drafts.{overlaid, draft_view, members_behind}
use Rattle.twin_patch.proofs.Fronts.{passed, rise_behind}
use Rattle.twin_patch.proofs.merge.pass.Goals as goal

pub moves-preserved : goal.moves-preserved
moves-preserved c =
    let items = c.moves.members.items in
    let rest = c.pop_front.new.self.items in
    let key = c.args.key.now in
    let is : items ≡ c.in-Some.member ∷ rest = c.in-Some.ensures.items in
    record {
      rise = rise_behind items rest c.in-Some.member is c.moves.invariant.rise;
      same = λ x more after.
          ap (λ (o : List Member). members_behind o (overlaid draft_view ((key, x) ∷ more) (members_view rest))) c.in_ok-push-in-Some.ensures.items
          ∙ passed key items rest c.in-Some.member c.moves.out.items x more (c.is_front_before.ensures.0 c.moves-test.true) is after ∙ c.moves.invariant.same x more after;
    }

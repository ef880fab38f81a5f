use Rattle.std.proofs.Common.{◌≡◌, sym, ap, ◌∙◌, subst}
use Rattle.json_tree.specs.Values.{Json, object}
use Rattle.json_tree.specs.View.{view, members_view}
use Rattle.twin_patch.specs.Reading.{AnswersEntry}
use Rattle.twin_patch.proofs.Steps.{view_object}
use Rattle.twin_patch.proofs.entry.read_op.Goals as goal

pub returns-in-Members : goal.returns-in-Members
returns-in-Members c =
    let is : view c.args.entry.now ≡ object (members_view c.as_slice.result.now) = ap view c.in-Members.is ∙ view_object c.in-Members.members ∙ ap (λ ms. object (members_view ms)) (sym c.as_slice.ensures) in
    subst (λ (v : Json). AnswersEntry c.args.of v c.object_op.result) (sym is) c.object_op.ensures

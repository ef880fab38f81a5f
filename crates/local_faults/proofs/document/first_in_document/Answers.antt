use Rattle.std.proofs.Common.{ap, sym, ◌∙◌}
use Rattle.json_tree.specs.Values.{array}
use Rattle.json_tree.specs.View.{view, elements_view, members_view}
use Rattle.json_tree.proofs.Views.{view-List, view-Members}
use Rattle.local_faults.proofs.Documents.{in_object, in_array}
use Rattle.local_faults.proofs.document.first_in_document.Goals as goal

pub returns-in-Members : goal.returns-in-Members
returns-in-Members c = in_object (view c.args.tree.now) (members_view c.in-Members.field-0) (ap view c.in-Members.is ∙ view-Members c.in-Members.field-0) c.first_in_interface.result c.first_in_interface.ensures

pub returns-in-List : goal.returns-in-List
returns-in-List c =
    let e = ap view c.in-List.is ∙ view-List c.in-List.interfaces ∙ ap (λ vs. array (elements_view vs)) (sym c.as_slice.ensures) in
    in_array (view c.args.tree.now) (elements_view c.as_slice.result.now) e c.first_in_interfaces.result c.first_in_interfaces.ensures

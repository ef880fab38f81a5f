use Rattle.std.proofs.Common.{◌≡◌, ◌↔◌, List, map, not, IsTrue, Some, sym, ap, ◌∙◌, subst}
use Rattle.json_tree.specs.Values.{Json, array}
use Rattle.json_tree.specs.View.{view, elements_view}
use Rattle.local_rules.specs.Roles.{type_in}
use Rattle.local_rules.specs.Types.{BadSemanticType, MayHaveBeside, further}
use Rattle.local_rules.specs.declared.role.Role.TheVariants as role
use Rattle.local_rules.proofs.Beside.{bad_semantic}
use Rattle.json_tree.proofs.Views.{list_of-elements_of, view-List}
use Rattle.local_rules.proofs.types.has_bad_beside.Goals as goal

pub returns-in-List : goal.returns-in-List
returns-in-List c = λ named.
    let trees = c.as_slice.result.now in
    let is : view c.args.tree.now ≡ array (elements_view trees) = rw c.as_slice.ensures (ap view c.in-List.is ∙ view-List c.in-List.entries) in
    let typed : type_in c.args.position (array (elements_view trees)) ≡ Some c.args.element = ap (type_in c.args.position) (sym is) ∙ named in
    let decided =
    subst (λ (vs : List Json). IsTrue c.may_have_beside.result ↔ MayHaveBeside c.args.element (further c.args.position vs)) (sym (list_of-elements_of (map view trees)))
    c.may_have_beside.ensures in
    subst (λ (v : Json). IsTrue (not c.may_have_beside.result) ↔ BadSemanticType (role.Type c.args.position) v) (sym is)
    (bad_semantic c.args.position c.args.element (elements_view trees) c.may_have_beside.result typed decided)

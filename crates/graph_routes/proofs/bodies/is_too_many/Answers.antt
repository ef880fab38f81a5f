use Rattle.std.proofs.Common.{◌≡◌, ◌<◌, ap, sym, subst, ◌∙◌, length, map, arith}
use Rattle.std.proofs.lemmas.Bool.Decides.{nat_tests}
use Rattle.std.proofs.lemmas.List.{length-map}
use Rattle.json_tree.specs.Values.{array}
use Rattle.json_tree.specs.View.{view, elements_view}
use Rattle.json_tree.specs.Members.{list_of}
use Rattle.json_tree.proofs.Views.{view-List, list_of-elements_of}
use Rattle.graph_routes.specs.Bodies.{IsTooMany}
use Rattle.graph_routes.proofs.bodies.is_too_many.Goals as goal

pub returns-in-List : goal.returns-in-List
returns-in-List c =
    let entries = c.in-List.entries in
    let is : view c.args.tree.now ≡ array (elements_view entries) = ap view c.in-List.is ∙ view-List entries in
    let size : length (list_of (elements_view entries)) ≡ length entries = ap length (list_of-elements_of (map view entries)) ∙ length-map entries view in
    let same = c.len.ensures in (
      λ more.
          let many : 250 < c.len.result = grind (arith, nat_tests) in
          let listed : 250 < length (list_of (elements_view entries)) = omega (arith, many, size, same) in
          subst IsTooMany (sym is) listed,
      λ many.
          let listed : 250 < length (list_of (elements_view entries)) = subst IsTooMany is many in
          let more : 250 < c.len.result = omega (arith, listed, size, same) in
          grind (arith, nat_tests),
    )

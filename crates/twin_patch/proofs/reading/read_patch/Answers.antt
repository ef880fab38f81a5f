use Rattle.std.proofs.Common.{◌≡◌, sym, ap, ◌∙◌, subst}
use Rattle.json_tree.specs.Values.{Json, array, HasDistinctKeys}
use Rattle.json_tree.specs.View.{view, elements_view}
use Rattle.json_tree.proofs.Views.{view-List}
use Rattle.twin_patch.proofs.Distinct.{patch_distinct}
use Rattle.twin_patch.proofs.reading.read_patch.Goals as goal

pub returns-in-List-clause-distinct : goal.returns-in-List-clause-distinct
returns-in-List-clause-distinct c = λ d.
    let is : view c.args.tree.now ≡ array (elements_view c.as_slice.result.now) = ap view c.in-List.is ∙ view-List c.in-List.entries ∙ ap (λ ts. array (elements_view ts)) (sym c.as_slice.ensures) in
    patch_distinct c.args.of (array (elements_view c.as_slice.result.now)) c.list_patch.result (subst (λ (v : Json). HasDistinctKeys v) is d) c.list_patch.ensures

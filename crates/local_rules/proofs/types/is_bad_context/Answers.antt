use Rattle.std.proofs.Common.{◌≡◌, List, [], ◌∷◌, length, refl, ap, ◌∙◌}
use Rattle.json_tree.specs.Values.{Json, text, array, element, no_elements}
use Rattle.json_tree.specs.View.{view, elements_view}
use Rattle.json_tree.specs.declared.tree.Tree.{Tree}
use Rattle.local_rules.specs.Types.{dtdl_context}
use Rattle.json_tree.proofs.Views.{view-List}
use Rattle.local_rules.proofs.types.is_bad_context.Goals as goal

-- a list that reads as one value has one entry
one_entry : (entries : List Tree) (v : Json) → elements_view entries ≡ element v no_elements → length entries ≡ 1
one_entry [] v h = cc
one_entry (t ∷ []) v h = refl
one_entry (t ∷ u ∷ ts) v h = cc

pub returns-in-None : goal.returns-in-None
returns-in-None c =
    let is : view c.args.tree.now ≡ array (elements_view c.as_slice.result.now) = rw c.as_slice.ensures (ap view c.in-List.is ∙ view-List c.in-List.entries) in
    (λ h. (refl, (λ t. cc), (λ t. c.in-None.ensures (one_entry c.as_slice.result.now (text dtdl_context) (cc)))), λ h. refl)

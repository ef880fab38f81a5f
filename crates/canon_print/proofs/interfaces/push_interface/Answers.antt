use Rattle.std.proofs.Common.{ℕ, List, [], ◌∷◌, Option, map, refl, sym, ◌∙◌}
use Rattle.std.specs.Prelude.{codes}
use Rattle.json_tree.specs.Values.{Json}
use Rattle.dtdl_terms.specs.TermViews.{schema_term}
use Rattle.canon_text.specs.Canonical.{localized_value, schema_pair, parent_pair}
use Rattle.canon_text.specs.Objects.{list_in_order, unless_empty}
use Rattle.canon_text.specs.Machinery.Pairs.{content_named}
use Rattle.canon_print.proofs.interfaces.push_interface.Goals as goal

pub returns : goal.returns
returns c =
    let i = c.args.interface.now in
    let schemas : List (List ℕ × Option Json) = (codes "schemas", unless_empty list_in_order (map (λ s. schema_pair (schema_term s)) i.schemas)) ∷ [] in
    let parents : List (List ℕ × Option Json) = (codes "extends", unless_empty list_in_order (map parent_pair i.parents)) ∷ schemas in
    let display_name : List (List ℕ × Option Json) = (codes "displayName", localized_value i.display_name) ∷ parents in
    let rest : List (List ℕ × Option Json) = (codes "description", localized_value i.description) ∷ display_name in
    c.in_ok-push_closing.ensures ∙ sym (
    c.in_ok-first.ensures ((codes "contents", unless_empty list_in_order (map content_named i.contents)) ∷ rest)
    ∙ rw c.as_slice-contents.ensures at c.in_ok-first-2.ensures (codes "contents") refl rest)

use Rattle.std.proofs.Common.{◌∙◌, ℕ, List, [], ◌∷◌, ◌++◌, Option, Some, ap, map}
use Rattle.std.specs.Prelude.{codes}
use Rattle.std.specs.Option.{option_map}
use Rattle.json_tree.specs.Values.{Json, text, object, members_of}
use Rattle.canon_text.specs.Objects.{list_in_order, unless_empty}
use Rattle.canon_text.specs.Machinery.Pairs.{content_named}
use Rattle.canon_text.specs.Canonical.{id_value, localized_value, parent_pair}
use Rattle.canon_text.proofs.interfaces.canon_tree.Goals as goal

pub returns : goal.returns
returns c =
    let i = c.args.interface.now in
    let p0 : List (List ℕ × Option Json) = (codes "@context", Some (text (codes "dtmi:dtdl:context;2"))) ∷ (codes "@id", Some (id_value i.id))
    ∷ (codes "@type", Some (text (codes "Interface"))) ∷ (codes "comment", option_map text i.comment) ∷ [] in
    let p1 : List (List ℕ × Option Json) = p0 ++ (codes "contents", unless_empty list_in_order (map content_named i.contents)) ∷ [] in
    let p2 : List (List ℕ × Option Json) = p1 ++ (codes "description", localized_value i.description) ∷ [] in
    let p3 : List (List ℕ × Option Json) = p2 ++ (codes "displayName", localized_value i.display_name) ∷ [] in
    let p4 : List (List ℕ × Option Json) = p3 ++ (codes "extends", unless_empty list_in_order (map parent_pair i.parents)) ∷ [] in
    let e1 = rw c.as_slice.ensures at c.in_ok-put_contents.ensures p0 c.in_ok-members.ensures in
    let e2 = c.in_ok-put_localized.ensures p1 e1 in
    let e3 = c.in_ok-put_localized-2.ensures p2 e2 in
    let e4 = rw c.as_slice-2.ensures at c.in_ok-put_parents.ensures p3 e3 in
    let e5 = rw c.as_slice-3.ensures at c.in_ok-put_schemas.ensures p4 e4 in
    c.object.ensures ∙ ap (λ (ms : List (List ℕ × Json)). object (members_of ms)) e5

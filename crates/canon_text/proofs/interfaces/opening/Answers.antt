use Rattle.std.proofs.Common.{ℕ, List, [], ◌∷◌, ◌++◌, Option, Some, ap, map}
use Rattle.std.specs.Prelude.{codes}
use Rattle.json_tree.specs.Values.{Json, text}
use Rattle.json_tree.specs.View.{member_view}
use Rattle.canon_text.specs.Canonical.{id_value}
use Rattle.canon_text.proofs.interfaces.opening.Goals as goal

pub returns : goal.returns
returns c =
    let p1 : List (List ℕ × Option Json) = (codes "@context", Some (text (codes "dtmi:dtdl:context;2"))) ∷ [] in
    let p2 : List (List ℕ × Option Json) = p1 ++ (codes "@id", Some (id_value c.args.interface.now.id)) ∷ [] in
    let p3 : List (List ℕ × Option Json) = p2 ++ (codes "@type", Some (text (codes "Interface"))) ∷ [] in
    let e1 = c.in_ok-put_text.ensures [] (ap (map member_view) c.in_ok-members.ensures.items) in
    let e2 = rw c.as_str.ensures.same at c.in_ok-put_text-2.ensures p1 e1 in
    let e3 = c.in_ok-put_text-3.ensures p2 e2 in
    c.in_ok-put_optional_text.ensures p3 e3

use Rattle.std.proofs.Common.{◌∙◌, ℕ, List, [], ◌∷◌, ◌++◌, Option, ap}
use Rattle.std.specs.Prelude.{codes}
use Rattle.std.specs.Option.{option_map}
use Rattle.json_tree.specs.Values.{Json, object, members_of}
use Rattle.canon_text.specs.Canonical.{id_value, writable_value}
use Rattle.canon_text.proofs.contents.relationship_of.Goals as goal

pub returns : goal.returns
returns c = λ parts of told same.
    let e1 = c.in_ok-put.ensures parts of told same in
    let p1 : List (List ℕ × Option Json) = parts ++ (codes "properties", of) ∷ [] in
    let e2 = c.in_ok-put_optional_id.ensures p1 e1 in
    let p2 : List (List ℕ × Option Json) = p1 ++ (codes "target", option_map id_value c.args.target.now) ∷ [] in
    let e3 = c.in_ok-put-2.ensures p2 (writable_value c.args.marked) c.writable.ensures e2 in
    c.object.ensures ∙ ap (λ (ms : List (List ℕ × Json)). object (members_of ms)) e3

use Rattle.std.proofs.Common.{ℕ, List, ◌∷◌, true, false, Option, Some, refl, ◌∙◌}
use Rattle.std.specs.Prelude.{codes}
use Rattle.std.specs.Option.{option_map}
use Rattle.json_tree.specs.Values.{Json, text}
use Rattle.canon_text.specs.Canonical.{id_value}
use Rattle.canon_print.proofs.Parts.{object_begun, given_printed}
use Rattle.canon_print.proofs.interfaces.push_opening.Goals as goal

pub returns : goal.returns
returns c = λ own.
    let i = c.args.interface.now in
    let comment : List (List ℕ × Option Json) = (codes "comment", option_map text i.comment) ∷ own in
    let kind : List (List ℕ × Option Json) = (codes "@type", Some (text (codes "Interface"))) ∷ comment in
    let id : List (List ℕ × Option Json) = (codes "@id", Some (id_value i.id)) ∷ kind in
    object_begun _ _ ((codes "@context", Some (text (codes "dtmi:dtdl:context;2"))) ∷ id) c.in_ok-push_str.ensures.bytes
    ∙ given_printed _ _ true _ (codes "@context") (text (codes "dtmi:dtdl:context;2")) c.in_ok-push_head.ensures refl id
    ∙ rw c.as_str.ensures.same at c.in_ok-push_text.ensures (codes "@id") refl kind
    ∙ given_printed _ _ false _ (codes "@type") (text (codes "Interface")) c.in_ok-push_head-2.ensures refl comment
    ∙ c.in_ok-first.ensures (codes "comment") refl own

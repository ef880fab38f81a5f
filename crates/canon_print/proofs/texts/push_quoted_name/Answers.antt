use Rattle.std.proofs.Common.{◌≡◌, ◌++◌, ◌∷◌, [], string_bytes, append_assoc, ◌∙◌}
use Rattle.json_tree.specs.Printing.{escaped}
use Rattle.canon_print.proofs.Plain.{plain_name}
use Rattle.canon_print.proofs.texts.push_quoted_name.Goals as goal

pub returns : goal.returns
returns c =
    let before = string_bytes c.args.out.now in
    let plain : escaped c.args.name.now ≡ c.args.name.now = plain_name c.args.name.now c.as_str.ensures.named in
    rw (c.in_ok-push_str-3.ensures.bytes, c.in_ok-push_str-2.ensures.bytes, c.in_ok-push_str.ensures.bytes, c.as_str.ensures.same, plain)
    (append_assoc (before ++ 34 ∷ []) c.args.name.now (34 ∷ []) ∙ append_assoc before (34 ∷ []) (c.args.name.now ++ 34 ∷ []))

use Rattle.std.proofs.Common.{[], ◌∷◌, ◌++◌, string_bytes, append_assoc, ap, ◌∙◌}
use Rattle.json_tree.specs.Printing.{quoted}
use Rattle.canon_print.proofs.localized.push_only_entry.Goals as goal

pub returns : goal.returns
returns c =
    let before = string_bytes c.args.out.now in
    let language = quoted c.args.entry.now.language in
    let text = quoted c.args.entry.now.text in
    let entry = (language ++ 58 ∷ []) ++ text in
    rw (c.in_ok-push_str-2.ensures.bytes, c.in_ok-push_entry.ensures, c.in_ok-push_str.ensures.bytes)
    (append_assoc (before ++ 123 ∷ []) entry (125 ∷ []) ∙ append_assoc before (123 ∷ []) (entry ++ 125 ∷ [])
    ∙ ap (λ bytes. before ++ 123 ∷ bytes) (append_assoc (language ++ 58 ∷ []) text (125 ∷ []) ∙ append_assoc language (58 ∷ []) (text ++ 125 ∷ [])))

use Rattle.std.proofs.Common.{[], ◌∷◌, ◌++◌, string_bytes, append_assoc, ap, ◌∙◌}
use Rattle.json_tree.specs.Printing.{quoted}
use Rattle.canon_print.proofs.localized.push_entry.Goals as goal

pub returns : goal.returns
returns c =
    let before = string_bytes c.args.out.now in
    let language = quoted c.args.entry.now.language in
    let text = quoted c.args.entry.now.text in
    rw (c.in_ok-push_quoted-2.ensures.printed, c.as_str-2.ensures, c.in_ok-push_str.ensures.bytes, c.in_ok-push_quoted.ensures.printed, c.as_str.ensures)
    (ap (λ bytes. bytes ++ text) (append_assoc before language (58 ∷ [])) ∙ append_assoc before (language ++ 58 ∷ []) text)

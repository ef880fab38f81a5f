use Rattle.std.proofs.Common.{◌++◌, string_bytes, refl, ap, ◌∙◌}
use Rattle.std.specs.Prelude.{codes}
use Rattle.json_tree.specs.Values.{text}
use Rattle.canon_print.proofs.Parts.{part_printed, types_printed}
use Rattle.canon_print.proofs.elements.push_type.Goals as goal

pub returns-in_ok-push_str-in-Some-3 : goal.returns-in_ok-push_str-in-Some-3
returns-in_ok-push_str-in-Some-3 c = λ kind same. rw c.in-Some.is
    (types_printed _ _ c.args.quoted_kind.now c.args.first kind c.in-Some.name same
    (rw (c.in_ok-push_str-in-Some-3.ensures.bytes, c.in_ok-push_quoted_name-in-Some.ensures, c.in_ok-push_str-in-Some-2.ensures.bytes, c.in_ok-push_str-in-Some.ensures.bytes, c.in_ok-push_head-in-Some.ensures) refl))

pub returns-in_ok-push_str-in-None : goal.returns-in_ok-push_str-in-None
returns-in_ok-push_str-in-None c = λ kind same. rw c.in-None.is
    (part_printed _ _ _ c.args.first _ (codes "@type") (text kind) c.in_ok-push_head-in-None.ensures refl
    (c.in_ok-push_str-in-None.ensures.bytes ∙ ap (λ bytes. string_bytes c.push_head-in-None.new.out ++ bytes) same))

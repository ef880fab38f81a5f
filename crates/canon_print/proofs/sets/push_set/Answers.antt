use Rattle.std.proofs.Common.{[], ◌∷◌, ◌++◌, map, string_bytes, append_assoc, ap, ◌∙◌}
use Rattle.json_tree.specs.Printing.{printed}
use Rattle.canon_text.specs.Canonical.{interface_pair}
use Rattle.canon_text.specs.Objects.{list_in_order}
use Rattle.canon_print.specs.Machinery.Lent.{values_now}
use Rattle.canon_print.proofs.Lists.{list_printed}
use Rattle.canon_print.proofs.sets.push_set.Goals as goal

pub returns : goal.returns
returns c =
    let before = string_bytes c.args.out.now in
    let whole = printed (list_in_order (map interface_pair c.args.interfaces.now)) in
    let text = list_printed interface_pair before _ _ c.as_slice.result.now c.args.interfaces.now c.in_ok-push_str.ensures.bytes (ap values_now c.as_slice.ensures.value ∙ c.in_ok-list.ensures) c.in_ok-push_lent_interfaces.ensures in
    c.in_ok-push_str-2.ensures.bytes ∙ ap (λ bytes. bytes ++ 10 ∷ []) text ∙ append_assoc before whole (10 ∷ [])

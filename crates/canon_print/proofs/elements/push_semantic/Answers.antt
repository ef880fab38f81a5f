use Rattle.std.proofs.Common.{◌∷◌, Some, ◌∙◌}
use Rattle.std.specs.Prelude.{codes}
use Rattle.canon_text.specs.Canonical.{typed}
use Rattle.canon_print.specs.Machinery.Remarks.{remark_parts}
use Rattle.canon_print.proofs.elements.push_semantic.Goals as goal

pub returns : goal.returns
returns c = λ kind same own.
    let remarks = remark_parts c.args.common.now own in
    c.in_ok-first.ensures ((codes "@type", Some (typed kind c.args.semantic.now)) ∷ remarks)
    ∙ c.in_ok-push_type.ensures kind same remarks
    ∙ c.in_ok-first-2.ensures own

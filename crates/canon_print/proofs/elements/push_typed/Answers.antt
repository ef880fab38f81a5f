use Rattle.std.proofs.Common.{◌∷◌, Some, ◌∙◌}
use Rattle.std.specs.Prelude.{codes}
use Rattle.canon_print.specs.Machinery.Remarks.{remark_parts}
use Rattle.canon_print.proofs.Parts.{given_printed}
use Rattle.canon_print.proofs.elements.push_typed.Goals as goal

pub returns : goal.returns
returns c = λ type same own.
    let remarks = remark_parts c.args.common.now own in
    c.in_ok-first.ensures ((codes "@type", Some type) ∷ remarks)
    ∙ given_printed _ _ c.in_ok-first.first c.args.member.now (codes "@type") type c.in_ok-push_head.ensures same remarks
    ∙ c.in_ok-first-2.ensures own

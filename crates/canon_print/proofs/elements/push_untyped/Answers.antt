use Rattle.std.proofs.Common.{◌∷◌, None, ◌∙◌}
use Rattle.std.specs.Prelude.{codes}
use Rattle.canon_print.specs.Machinery.Remarks.{remark_parts}
use Rattle.canon_print.proofs.elements.push_untyped.Goals as goal

pub returns : goal.returns
returns c = λ own. c.in_ok-first.ensures ((codes "@type", None) ∷ remark_parts c.args.common.now own) ∙ c.in_ok-first-2.ensures own

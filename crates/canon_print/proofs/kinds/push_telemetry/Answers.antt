use Rattle.std.proofs.Common.{[], refl, sym, ◌∙◌}
use Rattle.std.specs.Prelude.{codes}
use Rattle.canon_print.proofs.Parts.{parts_ended}
use Rattle.canon_print.proofs.kinds.push_telemetry.Goals as goal

pub returns : goal.returns
returns c = c.in_ok-push_str.ensures.bytes ∙ sym (c.in_ok-push_measured.ensures (codes "Telemetry") refl [] ∙ parts_ended _ _)

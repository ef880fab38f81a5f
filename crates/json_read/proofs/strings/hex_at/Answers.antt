use Rattle.std.proofs.Common.{get_or}
use Rattle.json_read.proofs.EscapeSpans.{hex_none}
use Rattle.json_read.proofs.strings.hex_at.Goals as goal

pub returns-in-None : goal.returns-in-None
returns-in-None c = (c.fault_at.ensures, λ h next. hex_none (get_or c.args.bytes.now c.args.at 0) next (rw (← c.byte_at.ensures.value) c.in-None.ensures))

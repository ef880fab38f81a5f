use Rattle.std.proofs.Common.{take}
use Rattle.std.proofs.lemmas.Str.{IsUtf8-had}
use Rattle.dt_base.proofs.short.Short.as_bytes.Goals as goal

pub returns-clause-utf8 : goal.returns-clause-utf8
returns-clause-utf8 c = IsUtf8-had (take c.self.inside.len c.self.inside.bytes) c.self.invariant.1

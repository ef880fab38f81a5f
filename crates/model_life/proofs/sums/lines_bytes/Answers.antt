use Rattle.std.proofs.Common.{sym, arith}
use Rattle.model_life.proofs.resolution.ByKey.{contains_map}
use Rattle.model_life.proofs.sums.lines_bytes.Goals as goal

pub line_bytes-requires-clause-there : goal.line_bytes-requires-clause-there
line_bytes-requires-clause-there c =
    c.requires.there c.interface-item.result.now (contains_map (λ x. x.now) c.args.interfaces.now c.interface-item.result (c.interfaces.interface-index, omega (arith, c.interfaces-test.true), sym c.interface-item.is))

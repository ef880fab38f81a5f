use Rattle.std.proofs.Common.{map, ap, sym, ◌∙◌, arith}
use Rattle.std.proofs.lemmas.List.{append-nil}
use Rattle.connections.proofs.mem_harbor.MemHarborHarbor.open.Invariants.{ahead_of}
use Rattle.connections.proofs.mem_harbor.MemHarborHarbor.open.Goals as goal

pub returns-clause-ahead : goal.returns-clause-ahead
returns-clause-ahead c =
    let all = c.opening.invariant.ahead 0 (omega (arith, c.opening-test.false, c.opening.auto.counter-end)) in
    ap (map ahead_of) c.from_vec.ensures ∙ sym (append-nil (map ahead_of c.opening.doors.items)) ∙ all

use Rattle.std.proofs.Common.{rules}
use Rattle.http_ends.proofs.ReadingLemmas.{Reads-trans}
use Rattle.http_ends.proofs.requests.await_head.Goals as goal

pub returns-in_err-end-clause-read : goal.returns-in_err-end-clause-read
returns-in_err-end-clause-read g c = Reads-trans g.S.Source.left g.S.Source.aside g.S.Source.faults c.awaiting.invariant.read c.fill.ensures.read

pub returns-in-More-clause-read : goal.returns-in-More-clause-read
returns-in-More-clause-read g c = Reads-trans g.S.Source.left g.S.Source.aside g.S.Source.faults c.awaiting.invariant.read c.fill.ensures.read

pub awaiting-preserved : goal.awaiting-preserved
awaiting-preserved g c =
    let read = Reads-trans g.S.Source.left g.S.Source.aside g.S.Source.faults c.awaiting.invariant.read c.fill.ensures.read in
    search rules

pub returns-in_default : goal.returns-in_default
returns-in_default g c =
    let read = Reads-trans g.S.Source.left g.S.Source.aside g.S.Source.faults c.awaiting.invariant.read c.fill.ensures.read in
    search rules

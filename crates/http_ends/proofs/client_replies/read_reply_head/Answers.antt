use Rattle.std.proofs.Common.{rules, ◌≤◌, List, ℕ, ◌++◌, length, subst, arith}
use Rattle.httparse.specs.Grammar.{HasNoResponse}
use Rattle.http_ends.specs.ReplyReading.{HasNoReply}
use Rattle.http_ends.proofs.HeadLemmas.{whatever_follows}
use Rattle.http_ends.proofs.ReadingLemmas.{Reads-trans}
use Rattle.http_ends.proofs.ReplyLemmas.{no_longer_reply}
use Rattle.http_ends.proofs.client_replies.read_reply_head.Goals as goal

pub returns-in-Refused-clause-why : goal.returns-in-Refused-clause-why
returns-in-Refused-clause-why g c =
    whatever_follows (g.S.Source.left c.judging.link) (λ more. HasNoReply (c.judging.buffer ++ more))
    (subst (λ bs. (more : List ℕ) → HasNoReply (bs ++ more)) c.as_slice.ensures c.in-Refused.ensures)

pub returns-in-More-clause-why : goal.returns-in-More-clause-why
returns-in-More-clause-why g c =
    let many : 16384 ≤ length c.judging.buffer = omega (arith, c.len-come.ensures, c.if-come-ge-MOST_HEAD.true) in
    whatever_follows (g.S.Source.left c.judging.link) (λ more. HasNoReply (c.judging.buffer ++ more))
    (λ more. no_longer_reply c.judging.buffer more (subst HasNoResponse c.as_slice.ensures c.in-Open.ensures) many)

pub returns-in_err-filled-clause-read : goal.returns-in_err-filled-clause-read
returns-in_err-filled-clause-read g c = Reads-trans g.S.Source.left g.S.Source.aside g.S.Source.faults c.judging.invariant.read c.await_head.ensures.read

pub judging-preserved : goal.judging-preserved
judging-preserved g c =
    let read = Reads-trans g.S.Source.left g.S.Source.aside g.S.Source.faults c.judging.invariant.read c.await_head.ensures.read in
    search rules

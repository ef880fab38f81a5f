use Rattle.std.proofs.Common.{rules, ◌≤◌, ◌++◌, length, ap, subst, arith}
use Rattle.httparse.specs.Grammar.{HasNoRequest}
use Rattle.http_ends.specs.Messages.{HasNoHead}
use Rattle.http_ends.proofs.HeadLemmas.{no_longer_head, whatever_follows}
use Rattle.http_ends.proofs.ReadingLemmas.{Reads-trans}
use Rattle.http_ends.proofs.requests.read_head.Goals as goal

pub returns-in-More-clause-why : goal.returns-in-More-clause-why
returns-in-More-clause-why g c =
    let many : 16384 ≤ length c.judging.buffer = omega (arith, c.len-come.ensures, c.if-come-ge-MOST_HEAD.true) in (
      λ none. omega (arith, many, ap length none),
      whatever_follows (g.S.Source.left c.judging.link) (λ more. HasNoHead (c.judging.buffer ++ more))
          (λ more. no_longer_head c.judging.buffer more (subst HasNoRequest c.as_slice.ensures c.in-Open.ensures) many),
    )

pub returns-in_err-filled-clause-read : goal.returns-in_err-filled-clause-read
returns-in_err-filled-clause-read g c = Reads-trans g.S.Source.left g.S.Source.aside g.S.Source.faults c.judging.invariant.read c.await_head.ensures.read

pub judging-preserved : goal.judging-preserved
judging-preserved g c =
    let read = Reads-trans g.S.Source.left g.S.Source.aside g.S.Source.faults c.judging.invariant.read c.await_head.ensures.read in
    search rules

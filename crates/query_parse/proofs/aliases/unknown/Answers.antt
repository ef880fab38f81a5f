use Rattle.std.proofs.Common.{ap, arith}
use Rattle.query_terms.specs.Queries.{asked}
use Rattle.query_grammar.specs.declared.names.Use.{Use}
use Rattle.query_parse.proofs.Leasts.{uses_step}
use Rattle.query_parse.proofs.aliases.unknown.Goals as goal

pub uses-preserved : goal.uses-preserved
uses-preserved c =
    let least = c.least-found.ensures _ _ c.uses.invariant c.only.ensures in
    let test = c.uses-test.true in
    uses_step (asked c.args.query.now) c.args.notes.now.aliases c.as_slice.result.now c.args.notes.now.uses c.as_slice-used-items.result.now c.uses.used-index
    c.used-item.result c.is_bound-bound.result _ c.least-found.result (omega (arith, test)) c.as_slice-used-items.ensures c.as_slice.ensures c.used-item.is
    (ap (λ (u : Use). u.placed.0) c.used.view_is) c.is_bound-bound.ensures least

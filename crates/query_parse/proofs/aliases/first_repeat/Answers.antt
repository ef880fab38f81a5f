use Rattle.std.proofs.Common.{◌≡◌, arith}
use Rattle.query_parse.proofs.Leasts.{names_step}
use Rattle.query_parse.proofs.aliases.first_repeat.Goals as goal

pub names-preserved : goal.names-preserved
names-preserved c =
    let least = c.least-found.ensures _ _ c.names.invariant c.only.ensures in
    let test = c.names-test.true in
    let view = c.placed.view_is in
    let seen : c.index-names-position.result ≡ (c.placed.inside.at, c.placed.inside.name) = cc in
    names_step c.args.names.now c.names.position c.index-names-position.result c.is_among-repeated.result c.placed.inside.at c.placed.inside.name
    c.least-found.result (omega (arith, test)) c.index-names-position.is seen c.is_among-repeated.ensures least

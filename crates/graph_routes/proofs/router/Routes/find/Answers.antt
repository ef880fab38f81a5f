use Rattle.std.proofs.Common.{subst, ◌≡◌, Some, None, arith}
use Rattle.matchit.specs.Rows.{RowsOf}
use Rattle.matchit.specs.Router.{RouteOf}
use Rattle.matchit.specs.Seek.{first}
use Rattle.graph_routes.specs.Machinery.Rows.{table}
use Rattle.graph_routes.specs.declared.route.Route.{Route}
use Rattle.graph_routes.proofs.Hits.{bytes_of, found_fits, missing_fits_none}
use Rattle.graph_routes.proofs.router.Routes.find.Goals as goal

pub returns-in-Ok : goal.returns-in-Ok
returns-in-Ok c =
    let path = c.args.path.now in
    let params = c.in-Ok.found.params in
    let e : RouteOf Route = record { pattern = params.pattern.now; text = params.text.now; names = params.names.now; value = c.in-Ok.found.value.now } in
    let bytes = bytes_of path (λ i. omega (arith, c.type_inv.path i)) in
    let there : first table path ≡ Some e = subst (λ (rows : RowsOf (RouteOf Route)). first rows path ≡ Some e) c.self.invariant c.in-Ok.ensures.found in
    let fits = found_fits path e bytes there in
    (fits.parts, fits.matches)

pub returns-in-Err : goal.returns-in-Err
returns-in-Err c = λ r parts m.
    let path = c.args.path.now in
    let bytes = bytes_of path (λ i. omega (arith, c.type_inv.path i)) in
    let missing : first table path ≡ None = subst (λ (rows : RowsOf (RouteOf Route)). first rows path ≡ None) c.self.invariant c.in-Err.ensures.missing in
    missing_fits_none path r parts bytes missing m

-- The asks for rows that requests make are sound.
use Rattle.std.proofs.Common.{◌≡◌, ℕ, List, true, Ok, Err}
use Rattle.json_tree.specs.Values.{Json}
use Rattle.query_bodies.specs.Outcomes.{IsMadeOfBody, AskOrRefusal}
use Rattle.query_bodies.proofs.Soundly.{IsOfBody, of_body, sound}
use Rattle.graph_asks.specs.declared.refusal.Refusal.{Refusal}
use Rattle.graph_asks.specs.declared.refusal.Refusal.TheVariants as refusals
use Rattle.graph_routes.specs.Methods.{methods}
use Rattle.graph_routes.specs.QueryRequests.{AsksQuery, AsksRows, prepared_of}
use Rattle.graph_routes.specs.declared.method.Method.{Method}
use Rattle.graph_routes.specs.declared.method.Method.TheVariants as method
use Rattle.graph_routes.specs.declared.prepared.Prepared.{Prepared}
use Rattle.graph_routes.specs.declared.route.Route.TheVariants as route
use Rattle.graph_routes.proofs.Listed.{has}
use Rattle.graph_routes.proofs.SoundOutcome.{IsDecided, IsRight, right_body, right_by}

decided : (r : Refusal) → IsOfBody r → IsDecided r
decided (refusals.BadMethod allow) h = absurd h
decided other h = tt

right_outcome : (v : Json) (x : AskOrRefusal) → IsMadeOfBody v x → IsRight (prepared_of x)
right_outcome v (Ok ask) h = sound v ask h
right_outcome v (Err refusal) h = decided refusal (of_body v refusal h)

right_rows : (v : Json) (p : Prepared) → AsksRows v p → IsRight p
right_rows v p (x, is, e) = right_by p (prepared_of x) e (right_outcome v x is)

pub right_query : (m : Method) (body : List ℕ) (p : Prepared) → AsksQuery m body p → has (methods route.Query) m ≡ true → IsRight p
right_query method.Post body p h there = right_body body AsksRows p (λ v spelled. right_rows v p) h
right_query method.Delete body p e there = absurd cc
right_query method.Get body p e there = absurd cc
right_query method.Patch body p e there = absurd cc
right_query method.Put body p e there = absurd cc

-- Of the paths of relationships one thing is asked.
use Rattle.std.proofs.Common.{◌≡◌, ℕ, List, [], ◌∷◌, Option, Some, None, refl, sym, ap, ◌∙◌}
use Rattle.json_tree.specs.Values.{Json}
use Rattle.twin_patch.specs.declared.entry.PatchOf.TheVariants as patches
use Rattle.twin_patch.specs.declared.patch.Patch.{Patch}
use Rattle.twin_value.specs.Breaches.{IsOuterLinkBreach}
use Rattle.graph_asks.specs.declared.ask.Ask.TheVariants as asks
use Rattle.graph_asks.specs.declared.refusal.Refusal.TheVariants as refusals
use Rattle.query_bodies.proofs.OneOutcome.{token_once}
use Rattle.graph_routes.specs.Identifiers.{link_ids}
use Rattle.graph_routes.specs.Outcomes.{Named, WithBody}
use Rattle.graph_routes.specs.Parameters.{BeginsPastId, BeginsPastPair, name_asked, token_given}
use Rattle.graph_routes.specs.TwinRequests.{WithId}
use Rattle.graph_routes.specs.LinkRequests.{AsksIncoming, AsksLink, AsksLinks, PatchesLink, PutsLink, TakesLink}
use Rattle.graph_routes.specs.declared.method.Method.{Method}
use Rattle.graph_routes.specs.declared.method.Method.TheVariants as method
use Rattle.graph_routes.specs.declared.prepared.Prepared.TheVariants.{Ask}
use Rattle.graph_routes.proofs.OneOutcome.{IsOne, Laws, alike, one_named, one_with_body, one_with_patch, one_with_value}
use Rattle.graph_routes.specs.declared.route.Route.TheVariants as route
use Rattle.graph_routes.proofs.OneModels.{one_not_allowed}
use Rattle.graph_routes.proofs.OneTwins.{one_with_id}

-- ---- tokens
past_once : (token : Option (List ℕ)) (x y : Option (List ℕ)) → BeginsPastId token x → BeginsPastId token y → x ≡ y
past_once None x y h g = h ∙ sym g
past_once (Some token) x y (id, is, h) (other, has, g) =
    let same : id ∷ [] ≡ other ∷ [] = token_once token 1 (id ∷ []) (other ∷ []) is has in
    let one : id ≡ other = cc in
    h ∙ ap Some one ∙ sym g

abbrev pair_of : List (List ℕ) → List ℕ × List ℕ
pair_of (source ∷ id ∷ rest) = (source, id)
pair_of other = ([], [])

past_pair_once : (token : Option (List ℕ)) (x y : Option (List ℕ × List ℕ)) → BeginsPastPair token x → BeginsPastPair token y → x ≡ y
past_pair_once None x y h g = h ∙ sym g
past_pair_once (Some token) x y (source, id, is, h) (from, other, has, g) =
    h ∙ ap (λ (ids : List (List ℕ)). Some (pair_of ids)) (token_once token 2 (source ∷ id ∷ []) (from ∷ other ∷ []) is has) ∙ sym g

-- ---- values
one_text : (x y : List ℕ) → Some x ≡ Some y → x ≡ y
one_text x y e = cc

one_taken : (source id : List ℕ) (v : Json) → IsOne (TakesLink source id v)
one_taken source id v p q (name, target, body, n, t, named, leads, seen, x) (other, to, tree, m, u, called, goes, shown, y) =
    alike p q (Ask (asks.PutRel source id name target body)) (Ask (asks.PutRel source id other to tree)) x y
    (refl, refl, one_text name other (sym named ∙ called), one_text target to (sym leads ∙ goes), seen ∙ sym shown)

one_put : (source id : List ℕ) (v : Json) → IsOne (PutsLink source id v)
one_put source id v = one_with_value (IsOuterLinkBreach v) v (link_ids source id) (TakesLink source id v) (one_taken source id v)

one_patched : Laws → (source id : List ℕ) (v : Json) → IsOne (PatchesLink source id v)
one_patched laws source id v = one_with_patch laws patches.Rel (λ (patch : Patch). asks.PatchRel source id patch) (λ a b e. (refl, refl, e)) v

-- ---- asks
pub one_of_link : Laws → (m : Method) (part second body : List ℕ) → IsOne (AsksLink m part second body)
one_of_link laws method.Get part second body =
    one_with_id 0 part (λ source. WithId 1 second (λ id given. given ≡ Ask (asks.GetRel source id)))
    (λ source. one_with_id 1 second (λ id given. given ≡ Ask (asks.GetRel source id)) (λ id p q x y. alike p q (Ask (asks.GetRel source id)) (Ask (asks.GetRel source id)) x y refl))
one_of_link laws method.Put part second body =
    one_with_id 0 part (λ source. WithId 1 second (λ id. WithBody body (PutsLink source id)))
    (λ source. one_with_id 1 second (λ id. WithBody body (PutsLink source id)) (λ id. one_with_body laws.number body (PutsLink source id) (one_put source id)))
one_of_link laws method.Patch part second body =
    one_with_id 0 part (λ source. WithId 1 second (λ id. WithBody body (PatchesLink source id)))
    (λ source. one_with_id 1 second (λ id. WithBody body (PatchesLink source id)) (λ id. one_with_body laws.number body (PatchesLink source id) (one_patched laws source id)))
one_of_link laws method.Delete part second body =
    one_with_id 0 part (λ source. WithId 1 second (λ id given. given ≡ Ask (asks.DropRel source id)))
    (λ source. one_with_id 1 second (λ id given. given ≡ Ask (asks.DropRel source id)) (λ id p q x y. alike p q (Ask (asks.DropRel source id)) (Ask (asks.DropRel source id)) x y refl))
one_of_link laws method.Post part second body = one_not_allowed route.Relationship

pub one_of_links : (m : Method) (part query : List ℕ) → IsOne (AsksLinks m part query)
one_of_links method.Get part query =
    one_with_id 0 part (λ source. Named (BeginsPastId (token_given query)) refusals.BadToken (λ after given. given ≡ Ask (asks.ListOut source (name_asked query) after)))
    (λ source. one_named (BeginsPastId (token_given query)) refusals.BadToken (λ after given. given ≡ Ask (asks.ListOut source (name_asked query) after)) (past_once (token_given query))
    (λ after p q x y. alike p q (Ask (asks.ListOut source (name_asked query) after)) (Ask (asks.ListOut source (name_asked query) after)) x y refl))
one_of_links method.Delete part query = one_not_allowed route.Relationships
one_of_links method.Patch part query = one_not_allowed route.Relationships
one_of_links method.Post part query = one_not_allowed route.Relationships
one_of_links method.Put part query = one_not_allowed route.Relationships

pub one_of_incoming : (m : Method) (part query : List ℕ) → IsOne (AsksIncoming m part query)
one_of_incoming method.Get part query =
    one_with_id 0 part (λ target. Named (BeginsPastPair (token_given query)) refusals.BadToken (λ after given. given ≡ Ask (asks.ListIn target after)))
    (λ target. one_named (BeginsPastPair (token_given query)) refusals.BadToken (λ after given. given ≡ Ask (asks.ListIn target after)) (past_pair_once (token_given query))
    (λ after p q x y. alike p q (Ask (asks.ListIn target after)) (Ask (asks.ListIn target after)) x y refl))
one_of_incoming method.Delete part query = one_not_allowed route.IncomingRelationships
one_of_incoming method.Patch part query = one_not_allowed route.IncomingRelationships
one_of_incoming method.Post part query = one_not_allowed route.IncomingRelationships
one_of_incoming method.Put part query = one_not_allowed route.IncomingRelationships

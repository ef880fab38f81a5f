-- Of the paths of relationships something is asked.
use Rattle.std.proofs.Common.{◌≡◌, ℕ, List, Option, Some, None, codes, refl}
use Rattle.json_tree.specs.Values.{Json}
use Rattle.json_tree.specs.Grammar.{Spells}
use Rattle.json_tree.specs.Machinery.Pieces.{IsOfTree}
use Rattle.twin_patch.specs.declared.entry.PatchOf.TheVariants as patches
use Rattle.twin_patch.specs.declared.patch.Patch.{Patch}
use Rattle.twin_value.specs.Breaches.{HasNoBreach, IsOuterLinkBreach, text_under}
use Rattle.graph_asks.specs.declared.ask.Ask.TheVariants as asks
use Rattle.graph_asks.specs.declared.refusal.Refusal.TheVariants as refusals
use Rattle.graph_routes.specs.Identifiers.{link_ids}
use Rattle.graph_routes.specs.LinkRequests.{AsksIncoming, AsksLink, AsksLinks, PatchesLink, PutsLink, TakesLink}
use Rattle.graph_routes.specs.Outcomes.{Named, WithBody, not_allowed}
use Rattle.graph_routes.specs.Parameters.{BeginsPastId, BeginsPastPair, name_asked, token_given}
use Rattle.graph_routes.specs.TwinRequests.{WithId}
use Rattle.graph_routes.specs.declared.method.Method.{Method}
use Rattle.graph_routes.specs.declared.method.Method.TheVariants as method
use Rattle.graph_routes.specs.declared.prepared.Prepared.TheVariants.{Ask}
use Rattle.graph_routes.specs.declared.route.Route.TheVariants as route
use Rattle.graph_routes.proofs.OuterBreaches.{bad_name, bad_target, link_somewhere, no_name, no_target}
use Rattle.graph_routes.proofs.SomeTrees.{tree_there}
use Rattle.graph_routes.proofs.SomeOutcome.{IsSome, Laws, some_is, some_named, some_with_body, some_with_patch, some_with_value}
use Rattle.graph_routes.proofs.SomeTwins.{some_with_id, spelled_tree}

-- ---- a relationship to put
module _ (source id : List ℕ) (v : Json) (tree : IsOfTree v) (none : HasNoBreach (IsOuterLinkBreach v)) where
  of_both : (name target : List ℕ) → text_under (codes "$relationshipName") v ≡ Some name → text_under (codes "$targetId") v ≡ Some target
      → IsSome (TakesLink source id v)
  of_both name target e f =
      λ nothing. bad_name v name none e (λ named. bad_target v target none f (λ aimed.
      let body = tree_there v tree in
      nothing (Ask (asks.PutRel source id name target body.0), (name, target, body.0, named, aimed, e, f, body.1, refl))))

  of_target : (name : List ℕ) → text_under (codes "$relationshipName") v ≡ Some name → (o : Option (List ℕ)) → text_under (codes "$targetId") v ≡ o
      → IsSome (TakesLink source id v)
  of_target name e None f = absurd (no_target v none f)
  of_target name e (Some target) f = of_both name target e f

  of_name : (o : Option (List ℕ)) → text_under (codes "$relationshipName") v ≡ o → IsSome (TakesLink source id v)
  of_name None e = absurd (no_name v none e)
  of_name (Some name) e = of_target name e (text_under (codes "$targetId") v) refl

some_put : (source id body : List ℕ) (v : Json) → Spells body v → IsSome (PutsLink source id v)
some_put source id body v spelled =
    some_with_value (IsOuterLinkBreach v) v (link_ids source id) (TakesLink source id v) (link_somewhere v)
    (λ none. of_name source id v (spelled_tree body v spelled) none (text_under (codes "$relationshipName") v) refl)

-- ---- asks
pub some_of_link : Laws → (m : Method) (part second body : List ℕ) → IsSome (AsksLink m part second body)
some_of_link laws method.Get part second body =
    some_with_id 0 part (λ source. WithId 1 second (λ id given. given ≡ Ask (asks.GetRel source id)))
    (λ source. some_with_id 1 second (λ id given. given ≡ Ask (asks.GetRel source id)) (λ id. some_is (Ask (asks.GetRel source id))))
some_of_link laws method.Put part second body =
    some_with_id 0 part (λ source. WithId 1 second (λ id. WithBody body (PutsLink source id)))
    (λ source. some_with_id 1 second (λ id. WithBody body (PutsLink source id))
    (λ id. some_with_body laws body (PutsLink source id) (some_put source id body)))
some_of_link laws method.Patch part second body =
    some_with_id 0 part (λ source. WithId 1 second (λ id. WithBody body (PatchesLink source id)))
    (λ source. some_with_id 1 second (λ id. WithBody body (PatchesLink source id))
    (λ id. some_with_body laws body (PatchesLink source id)
    (λ v spelled. some_with_patch laws patches.Rel (λ (patch : Patch). asks.PatchRel source id patch) v (spelled_tree body v spelled))))
some_of_link laws method.Delete part second body =
    some_with_id 0 part (λ source. WithId 1 second (λ id given. given ≡ Ask (asks.DropRel source id)))
    (λ source. some_with_id 1 second (λ id given. given ≡ Ask (asks.DropRel source id)) (λ id. some_is (Ask (asks.DropRel source id))))
some_of_link laws method.Post part second body = some_is (not_allowed route.Relationship)

pub some_of_links : (m : Method) (part query : List ℕ) → IsSome (AsksLinks m part query)
some_of_links method.Get part query =
    some_with_id 0 part (λ source. Named (BeginsPastId (token_given query)) refusals.BadToken (λ after given. given ≡ Ask (asks.ListOut source (name_asked query) after)))
    (λ source. some_named (BeginsPastId (token_given query)) refusals.BadToken (λ after given. given ≡ Ask (asks.ListOut source (name_asked query) after))
    (λ after past. some_is (Ask (asks.ListOut source (name_asked query) after))))
some_of_links method.Delete part query = some_is (not_allowed route.Relationships)
some_of_links method.Patch part query = some_is (not_allowed route.Relationships)
some_of_links method.Post part query = some_is (not_allowed route.Relationships)
some_of_links method.Put part query = some_is (not_allowed route.Relationships)

pub some_of_incoming : (m : Method) (part query : List ℕ) → IsSome (AsksIncoming m part query)
some_of_incoming method.Get part query =
    some_with_id 0 part (λ target. Named (BeginsPastPair (token_given query)) refusals.BadToken (λ after given. given ≡ Ask (asks.ListIn target after)))
    (λ target. some_named (BeginsPastPair (token_given query)) refusals.BadToken (λ after given. given ≡ Ask (asks.ListIn target after))
    (λ after past. some_is (Ask (asks.ListIn target after))))
some_of_incoming method.Delete part query = some_is (not_allowed route.IncomingRelationships)
some_of_incoming method.Patch part query = some_is (not_allowed route.IncomingRelationships)
some_of_incoming method.Post part query = some_is (not_allowed route.IncomingRelationships)
some_of_incoming method.Put part query = some_is (not_allowed route.IncomingRelationships)

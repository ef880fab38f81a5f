-- Of the paths of twins and their components something is asked.
use Rattle.std.proofs.Common.{◌≡◌, ℕ, List, Option, Some, None, codes, refl}
use Rattle.json_tree.specs.Values.{Json}
use Rattle.json_tree.specs.Grammar.{Spells}
use Rattle.json_tree.specs.Members.{value_in}
use Rattle.json_tree.specs.Machinery.Pieces.{IsOfTree}
use Rattle.json_read.proofs.PrintedAgain.{spelled_printable}
use Rattle.twin_patch.specs.declared.entry.PatchOf.TheVariants as patches
use Rattle.twin_patch.specs.declared.patch.Patch.{Patch}
use Rattle.twin_value.specs.Breaches.{HasNoBreach, IsOuterBreach, text_under}
use Rattle.page_tokens.specs.Tokens.{NamesId}
use Rattle.graph_asks.specs.declared.ask.Ask.TheVariants as asks
use Rattle.graph_asks.specs.declared.refusal.Refusal.TheVariants as refusals
use Rattle.graph_routes.specs.Parts.{NamesComponentPart}
use Rattle.graph_routes.specs.Identifiers.{twin_ids}
use Rattle.graph_routes.specs.Outcomes.{WithBody, not_allowed}
use Rattle.graph_routes.specs.TwinRequests.{AsksPart, AsksTwin, PatchesPart, PatchesTwin, PutsTwin, TakesTwin, WithComponent, WithId}
use Rattle.graph_routes.specs.declared.method.Method.{Method}
use Rattle.graph_routes.specs.declared.method.Method.TheVariants as method
use Rattle.graph_routes.specs.declared.prepared.Prepared.{Prepared}
use Rattle.graph_routes.specs.declared.prepared.Prepared.TheVariants.{Ask}
use Rattle.graph_routes.specs.declared.route.Route.TheVariants as route
use Rattle.graph_routes.proofs.OuterBreaches.{bad_model, names_model, no_metadata, no_model, twin_somewhere}
use Rattle.graph_routes.proofs.SomeTrees.{tree_there}
use Rattle.graph_routes.proofs.SomeOutcome.{IsSome, Laws, some_is, some_named, some_with_body, some_with_patch, some_with_value}

-- What bytes spell is of a tree.
pub spelled_tree : (body : List ℕ) (v : Json) → Spells body v → IsOfTree v
spelled_tree body v spelled = let p = spelled_printable body v spelled in p.0

-- ---- a twin to put
module _ (id : List ℕ) (v : Json) (tree : IsOfTree v) (none : HasNoBreach (IsOuterBreach v)) where
  of_model : (m : Json) → value_in (codes "$metadata") v ≡ Some m → (o : Option (List ℕ)) → text_under (codes "$model") m ≡ o → IsSome (TakesTwin id v)
  of_model m e None is = absurd (no_model v m none e is)
  of_model m e (Some t) is = λ nothing. bad_model v m t none e is (λ model own short.
      let named = names_model v m t model e is own short in
      let body = tree_there v tree in
      nothing (Ask (asks.PutTwin id model body.0), (model, body.0, named.0, named.1, body.1, refl)))

  of_metadata : (o : Option Json) → value_in (codes "$metadata") v ≡ o → IsSome (TakesTwin id v)
  of_metadata None e = absurd (no_metadata v none e)
  of_metadata (Some m) e = of_model m e (text_under (codes "$model") m) refl

some_put : (id body : List ℕ) (v : Json) → Spells body v → IsSome (PutsTwin id v)
some_put id body v spelled =
    some_with_value (IsOuterBreach v) v (twin_ids id) (TakesTwin id v) (twin_somewhere v)
    (λ none. of_metadata id v (spelled_tree body v spelled) none (value_in (codes "$metadata") v) refl)

-- ---- parts of a path
pub some_with_id : (at : ℕ) (part : List ℕ) (Gives : List ℕ → Prepared → Type 0) → ((id : List ℕ) → IsSome (Gives id)) → IsSome (WithId at part Gives)
some_with_id at part Gives some = some_named (NamesId part) (refusals.BadId at) Gives (λ id names. some id)

some_with_component : (part : List ℕ) (Gives : List ℕ → Prepared → Type 0) → ((name : List ℕ) → IsSome (Gives name)) → IsSome (WithComponent part Gives)
some_with_component part Gives some = some_named (NamesComponentPart part) (refusals.BadId 1) Gives (λ name names. some name)

-- ---- asks
pub some_of_twin : Laws → (m : Method) (part body : List ℕ) → IsSome (AsksTwin m part body)
some_of_twin laws method.Get part body =
    some_with_id 0 part (λ id given. given ≡ Ask (asks.GetTwin id)) (λ id. some_is (Ask (asks.GetTwin id)))
some_of_twin laws method.Put part body =
    some_with_id 0 part (λ id. WithBody body (PutsTwin id)) (λ id. some_with_body laws body (PutsTwin id) (some_put id body))
some_of_twin laws method.Patch part body =
    some_with_id 0 part (λ id. WithBody body (PatchesTwin id))
    (λ id. some_with_body laws body (PatchesTwin id)
    (λ v spelled. some_with_patch laws patches.Twin (λ (patch : Patch). asks.PatchTwin id patch) v (spelled_tree body v spelled)))
some_of_twin laws method.Delete part body =
    some_with_id 0 part (λ id given. given ≡ Ask (asks.DropTwin id)) (λ id. some_is (Ask (asks.DropTwin id)))
some_of_twin laws method.Post part body = some_is (not_allowed route.Twin)

pub some_of_part : Laws → (m : Method) (part second body : List ℕ) → IsSome (AsksPart m part second body)
some_of_part laws method.Get part second body =
    some_with_id 0 part (λ id. WithComponent second (λ name given. given ≡ Ask (asks.GetPart id name)))
    (λ id. some_with_component second (λ name given. given ≡ Ask (asks.GetPart id name)) (λ name. some_is (Ask (asks.GetPart id name))))
some_of_part laws method.Patch part second body =
    some_with_id 0 part (λ id. WithComponent second (λ name. WithBody body (PatchesPart id name)))
    (λ id. some_with_component second (λ name. WithBody body (PatchesPart id name))
    (λ name. some_with_body laws body (PatchesPart id name)
    (λ v spelled. some_with_patch laws patches.Part (λ (patch : Patch). asks.PatchPart id name patch) v (spelled_tree body v spelled))))
some_of_part laws method.Delete part second body = some_is (not_allowed route.Component)
some_of_part laws method.Post part second body = some_is (not_allowed route.Component)
some_of_part laws method.Put part second body = some_is (not_allowed route.Component)

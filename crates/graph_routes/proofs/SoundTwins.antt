-- The asks on twins, components and relationships that requests make are sound.
use Rattle.std.proofs.Common.{◌≡◌, ℕ, List, [], ◌∷◌, Option, Some, None, true, refl, sym, subst}
use Rattle.std.specs.Prelude.{IfSome, codes}
use Rattle.std.specs.List.{AllByRecursion}
use Rattle.json_tree.specs.Values.{Json}
use Rattle.json_tree.specs.Members.{members_in}
use Rattle.twin_patch.specs.declared.entry.PatchOf.TheVariants as patches
use Rattle.twin_patch.specs.declared.patch.Patch.{Patch}
use Rattle.twin_value.specs.Breaches.{IsOuterBreach, IsOuterLinkBreach, IsTwinId}
use Rattle.page_tokens.specs.Tokens.{NamesId, NameIds, token_parts}
use Rattle.graph_asks.specs.declared.ask.Ask.TheVariants as asks
use Rattle.graph_asks.specs.declared.refusal.Refusal.TheVariants as refusals
use Rattle.graph_steps.specs.Soundness.{IsLinkBody, IsReadValue, IsTwinBody}
use Rattle.graph_routes.specs.Methods.{methods}
use Rattle.graph_routes.specs.Parts.{NamesComponentPart}
use Rattle.graph_routes.specs.Identifiers.{link_ids, twin_ids}
use Rattle.graph_routes.specs.Outcomes.{Named, WithBody}
use Rattle.graph_routes.specs.Parameters.{BeginsPastId, BeginsPastPair, name_asked, token_given}
use Rattle.graph_routes.specs.TwinRequests.{AsksPart, AsksTwin, PatchesPart, PatchesTwin, PutsTwin, TakesTwin, WithComponent, WithId}
use Rattle.graph_routes.specs.LinkRequests.{AsksIncoming, AsksLink, AsksLinks, PatchesLink, PutsLink, TakesLink}
use Rattle.graph_routes.specs.declared.method.Method.{Method}
use Rattle.graph_routes.specs.declared.method.Method.TheVariants as method
use Rattle.graph_routes.specs.declared.prepared.Prepared.{Prepared}
use Rattle.graph_routes.specs.declared.prepared.Prepared.TheVariants.{Ask}
use Rattle.graph_routes.specs.declared.route.Route.TheVariants as route
use Rattle.graph_routes.proofs.Listed.{has}
use Rattle.graph_routes.proofs.Agreeing.{agrees}
use Rattle.graph_routes.proofs.SoundOutcome.{IsRight, read_value, right_body, right_by, right_named, right_patch, right_value}

-- ---- parts
right_id : (at : ℕ) (part : List ℕ) (Gives : List ℕ → Prepared → Type 0) (p : Prepared) → ((id : List ℕ) → IsTwinId id → Gives id p → IsRight p) → WithId at part Gives p → IsRight p
right_id at part Gives p right h = right_named (NamesId part) (refusals.BadId at) Gives p tt (λ id is g. right id is.grammar g) h

right_component : (part : List ℕ) (Gives : List ℕ → Prepared → Type 0) (p : Prepared) → ((name : List ℕ) → NamesComponentPart part name → Gives name p → IsRight p) → WithComponent part Gives p → IsRight p
right_component part Gives p right h = right_named (NamesComponentPart part) (refusals.BadId 1) Gives p tt right h

-- ---- twins
right_taken : (id : List ℕ) (v : Json) (p : Prepared) → IsTwinId id → IsReadValue v → PutsTwin id v p → IsRight p
right_taken id v p is read h = right_value (IsOuterBreach v) (twin_ids id) v (TakesTwin id v) p (λ none same (model, body, own, named, seen, e).
    right_by p (Ask (asks.PutTwin id model body)) e (
      is,
      own,
      subst (IsTwinBody id model) (sym seen) (record {
        read = read;
        unbroken = none;
        names = named;
        agrees = agrees id (twin_ids id) (codes "$dtId") refl (members_in v) same;
      }),
    )) h

pub right_twin : (m : Method) (part body : List ℕ) (p : Prepared) → AsksTwin m part body p → has (methods route.Twin) m ≡ true → IsRight p
right_twin method.Get part body p h there = right_id 0 part (λ id given. given ≡ Ask (asks.GetTwin id)) p (λ id is e. right_by p (Ask (asks.GetTwin id)) e is) h
right_twin method.Delete part body p h there = right_id 0 part (λ id given. given ≡ Ask (asks.DropTwin id)) p (λ id is e. right_by p (Ask (asks.DropTwin id)) e is) h
right_twin method.Put part body p h there = right_id 0 part (λ id. WithBody body (PutsTwin id)) p
    (λ id is. right_body body (PutsTwin id) p (λ v spelled. right_taken id v p is (read_value body v spelled))) h
right_twin method.Patch part body p h there = right_id 0 part (λ id. WithBody body (PatchesTwin id)) p
    (λ id is. right_body body (PatchesTwin id) p (λ v spelled. right_patch patches.Twin (λ (patch : Patch). asks.PatchTwin id patch) v p (read_value body v spelled) (λ patch r. (is, r)))) h
right_twin method.Post part body p e there = absurd cc

pub right_part : (m : Method) (part second body : List ℕ) (p : Prepared) → AsksPart m part second body p → has (methods route.Component) m ≡ true → IsRight p
right_part method.Get part second body p h there = right_id 0 part (λ id. WithComponent second (λ name given. given ≡ Ask (asks.GetPart id name))) p
    (λ id is. right_component second (λ name given. given ≡ Ask (asks.GetPart id name)) p (λ name named e. right_by p (Ask (asks.GetPart id name)) e (is, named.grammar))) h
right_part method.Patch part second body p h there = right_id 0 part (λ id. WithComponent second (λ name. WithBody body (PatchesPart id name))) p
    (λ id is. right_component second (λ name. WithBody body (PatchesPart id name)) p
    (λ name named. right_body body (PatchesPart id name) p
    (λ v spelled. right_patch patches.Part (λ (patch : Patch). asks.PatchPart id name patch) v p (read_value body v spelled) (λ patch r. (is, named.grammar, r))))) h
right_part method.Delete part second body p e there = absurd cc
right_part method.Post part second body p e there = absurd cc
right_part method.Put part second body p e there = absurd cc

-- ---- relationships
right_led : (source id : List ℕ) (v : Json) (p : Prepared) → IsTwinId source → IsTwinId id → IsReadValue v → PutsLink source id v p → IsRight p
right_led source id v p from is read h = right_value (IsOuterLinkBreach v) (link_ids source id) v (TakesLink source id v) p (λ none same (name, target, body, own, to, named, leads, seen, e).
    right_by p (Ask (asks.PutRel source id name target body)) e (
      from,
      is,
      own,
      to,
      subst (IsLinkBody source id name target) (sym seen) (record {
        read = read;
        unbroken = none;
        named = named;
        leads = leads;
        agrees = agrees id (link_ids source id) (codes "$relationshipId") refl (members_in v) same;
        begins = agrees source (link_ids source id) (codes "$sourceId") refl (members_in v) same;
      }),
    )) h

pub right_link : (m : Method) (part second body : List ℕ) (p : Prepared) → AsksLink m part second body p → has (methods route.Relationship) m ≡ true → IsRight p
right_link method.Get part second body p h there = right_id 0 part (λ source. WithId 1 second (λ id given. given ≡ Ask (asks.GetRel source id))) p
    (λ source from. right_id 1 second (λ id given. given ≡ Ask (asks.GetRel source id)) p (λ id is e. right_by p (Ask (asks.GetRel source id)) e (from, is))) h
right_link method.Delete part second body p h there = right_id 0 part (λ source. WithId 1 second (λ id given. given ≡ Ask (asks.DropRel source id))) p
    (λ source from. right_id 1 second (λ id given. given ≡ Ask (asks.DropRel source id)) p (λ id is e. right_by p (Ask (asks.DropRel source id)) e (from, is))) h
right_link method.Put part second body p h there = right_id 0 part (λ source. WithId 1 second (λ id. WithBody body (PutsLink source id))) p
    (λ source from. right_id 1 second (λ id. WithBody body (PutsLink source id)) p
    (λ id is. right_body body (PutsLink source id) p (λ v spelled. right_led source id v p from is (read_value body v spelled)))) h
right_link method.Patch part second body p h there = right_id 0 part (λ source. WithId 1 second (λ id. WithBody body (PatchesLink source id))) p
    (λ source from. right_id 1 second (λ id. WithBody body (PatchesLink source id)) p
    (λ id is. right_body body (PatchesLink source id) p
    (λ v spelled. right_patch patches.Rel (λ (patch : Patch). asks.PatchRel source id patch) v p (read_value body v spelled) (λ patch r. (from, is, r))))) h
right_link method.Post part second body p e there = absurd cc

-- ---- pages
ids_are : (parts ids : List (List ℕ)) → NameIds parts ids → AllByRecursion IsTwinId ids
ids_are [] [] h = tt
ids_are [] (x ∷ xs) h = absurd h
ids_are (part ∷ parts) [] h = absurd h
ids_are (part ∷ parts) (x ∷ xs) h = (h.0.grammar, ids_are parts xs h.1)

past_is : (token after : Option (List ℕ)) → BeginsPastId token after → IfSome after IsTwinId
past_is None after e = subst (λ (o : Option (List ℕ)). IfSome o IsTwinId) (sym e) tt
past_is (Some token) after (id, is, e) = subst (λ (o : Option (List ℕ)). IfSome o IsTwinId) (sym e) (ids_are (token_parts token) (id ∷ []) is.named).0

abbrev AreIds : Option (List ℕ × List ℕ) → Type 0
AreIds after = IfSome after (λ ids. IsTwinId ids.0 × IsTwinId ids.1)

past_pair_is : (token : Option (List ℕ)) (after : Option (List ℕ × List ℕ)) → BeginsPastPair token after → AreIds after
past_pair_is None after e = subst AreIds (sym e) tt
past_pair_is (Some token) after (source, id, is, e) =
    let both = ids_are (token_parts token) (source ∷ id ∷ []) is.named in
    subst AreIds (sym e) (both.0, both.1.0)

pub right_links : (m : Method) (part query : List ℕ) (p : Prepared) → AsksLinks m part query p → has (methods route.Relationships) m ≡ true → IsRight p
right_links method.Get part query p h there =
    right_id 0 part (λ source. Named (BeginsPastId (token_given query)) refusals.BadToken (λ after given. given ≡ Ask (asks.ListOut source (name_asked query) after))) p
    (λ source from. right_named (BeginsPastId (token_given query)) refusals.BadToken (λ after given. given ≡ Ask (asks.ListOut source (name_asked query) after)) p tt
    (λ after is e. right_by p (Ask (asks.ListOut source (name_asked query) after)) e (from, past_is (token_given query) after is))) h
right_links method.Delete part query p e there = absurd cc
right_links method.Patch part query p e there = absurd cc
right_links method.Post part query p e there = absurd cc
right_links method.Put part query p e there = absurd cc

pub right_incoming : (m : Method) (part query : List ℕ) (p : Prepared) → AsksIncoming m part query p → has (methods route.IncomingRelationships) m ≡ true → IsRight p
right_incoming method.Get part query p h there =
    right_id 0 part (λ target. Named (BeginsPastPair (token_given query)) refusals.BadToken (λ after given. given ≡ Ask (asks.ListIn target after))) p
    (λ target to. right_named (BeginsPastPair (token_given query)) refusals.BadToken (λ after given. given ≡ Ask (asks.ListIn target after)) p tt
    (λ after is e. right_by p (Ask (asks.ListIn target after)) e (to, past_pair_is (token_given query) after is))) h
right_incoming method.Delete part query p e there = absurd cc
right_incoming method.Patch part query p e there = absurd cc
right_incoming method.Post part query p e there = absurd cc
right_incoming method.Put part query p e there = absurd cc

-- Of the paths of models, and of queries, something is asked.
use Rattle.std.proofs.Common.{◌≡◌, ℕ, ◌⊎◌, inl, inr, List, Bool, refl}
use Rattle.dt_base.specs.names.Grammar.{Identifier}
use Rattle.dt_base.proofs.Existence.{is_there, holds_or_not, from_there, map_there}
use Rattle.dtdl_terms.specs.declared.uploaded.Uploaded.{Uploaded}
use Rattle.json_tree.specs.Values.{Json, null, truth, number, text, array, object}
use Rattle.local_rules.specs.Breaches.{IsFirstBreach}
use Rattle.local_rules.specs.Codes.{rule_code}
use Rattle.local_rules.specs.declared.rule.LocalRule.{LocalRule}
use Rattle.local_faults.proofs.LeastBreaches.{breach_stands}
use Rattle.model_read.specs.Uploads.{AreUploaded}
use Rattle.twin_patch.specs.Codes.{code_text}
use Rattle.twin_patch.specs.Operations.{Change, add, replace, remove, Operation}
use Rattle.twin_patch.specs.Reading.{IsJsonTruth, IsPatch, SetsTruth}
use Rattle.twin_patch.specs.declared.entry.PatchOf.TheVariants as patches
use Rattle.graph_asks.specs.declared.ask.Ask.TheVariants as asks
use Rattle.graph_asks.specs.declared.refusal.At.TheVariants as at
use Rattle.graph_asks.specs.declared.refusal.Refusal.{Refusal}
use Rattle.graph_asks.specs.declared.refusal.Refusal.TheVariants as refusals
use Rattle.query_bodies.specs.Outcomes.{AskOrRefusal, IsMadeOfBody}
use Rattle.graph_routes.specs.Parts.{NamesModel}
use Rattle.graph_routes.specs.Bodies.{IsTooMany, RefusesModels, SetsMark, SetsTo, most_models}
use Rattle.graph_routes.specs.ModelRequests.{AsksCanon, AsksModel, AsksModels, Marks, PutsModels}
use Rattle.graph_routes.specs.Outcomes.{WithBody, not_allowed}
use Rattle.graph_routes.specs.QueryRequests.{AsksQuery, AsksRows, prepared_of}
use Rattle.graph_routes.specs.declared.method.Method.{Method}
use Rattle.graph_routes.specs.declared.method.Method.TheVariants as method
use Rattle.graph_routes.specs.declared.prepared.Prepared.TheVariants.{Ask, Own}
use Rattle.graph_routes.specs.declared.route.Route.TheVariants as route
use Rattle.graph_routes.proofs.SomeBreaches.{pointed}
use Rattle.graph_routes.proofs.SomeOutcome.{IsSome, Laws, Made, PatchOrFault, RulesOrBreach, some_is, some_named, some_with_body}

-- ---- models
breached : (v : Json) (place : List ℕ) (broken : LocalRule) → IsFirstBreach v place broken → (refusal : Refusal) × RefusesModels v refusal
breached v place broken first =
    let p = pointed v place (breach_stands v place broken first.breach) in
    (refusals.ModelFault (at.Pointer p.0) (rule_code broken), (place, broken, p.0, first, p.1, refl))

few_models : Laws → (v : Json) → (IsTooMany v → ⊥) → RulesOrBreach v → IsSome (PutsModels v)
few_models laws v few (inl unbroken) =
    map_there (λ (us : (us : List Uploaded) × AreUploaded v 1 us). (Ask (asks.PutModels us.0), inr (inr (few, (us.0, (unbroken, us.1), refl)))))
    (laws.declared v 1 unbroken)
few_models laws v few (inr (place, broken, first)) = let r = breached v place broken first in is_there (Own r.0, inr (inl (few, (r.0, r.1, refl))))

some_put : Laws → (v : Json) → IsSome (PutsModels v)
some_put laws v = from_there (holds_or_not (IsTooMany v)) decided
  where
    decided : IsTooMany v ⊎ (IsTooMany v → ⊥) → IsSome (PutsModels v)
    decided (inl many) = is_there (Own (refusals.TooManyModels most_models), inl (many, refl))
    decided (inr few) = from_there (laws.local v) (few_models laws v few)

-- ---- marks
truth_of : (v : Json) → IsJsonTruth v → (on : Bool) × (v ≡ truth on)
truth_of null is = absurd is
truth_of (truth b) is = (b, refl)
truth_of (number n) is = absurd is
truth_of (text bytes) is = absurd is
truth_of (array vs) is = absurd is
truth_of (object ms) is = absurd is

set_to : (c : Change) → SetsTruth c → (on : Bool) × SetsTo c on
set_to (add v) is = truth_of v is
set_to (replace v) is = truth_of v is
set_to remove is = absurd is

mark_of : (v : Json) (os : List Operation) → IsPatch patches.Model v os → (on : Bool) × SetsMark v on
mark_of v os (entries, same, are, (o, one, path, sets)) =
    let b = set_to o.change sets in
    (b.0, (os, (entries, same, are, (o, one, path, sets)), (o, one, b.1)))

some_marks : Laws → (id : Identifier) (v : Json) → IsSome (Marks id v)
some_marks laws id v = map_there decided (laws.patch patches.Model v)
  where
    decided : PatchOrFault patches.Model v → Made (Marks id v)
    decided (inl (os, is)) = let b = mark_of v os is in (Ask (asks.Mark id b.0), inr (b.0, b.1, refl))
    decided (inr (index, code, is)) =
        let refusal = refusals.PatchFault (code_text code) index in
        (Own refusal, inl (refusal, (index, code, is, refl), refl))

-- ---- asks
pub some_of_models : Laws → (m : Method) (body : List ℕ) → IsSome (AsksModels m body)
some_of_models laws method.Get body = some_is (Ask asks.ListModels)
some_of_models laws method.Post body = some_with_body laws body PutsModels (λ v spelled. some_put laws v)
some_of_models laws method.Delete body = some_is (not_allowed route.Models)
some_of_models laws method.Patch body = some_is (not_allowed route.Models)
some_of_models laws method.Put body = some_is (not_allowed route.Models)

pub some_of_model : Laws → (m : Method) (part body : List ℕ) → IsSome (AsksModel m part body)
some_of_model laws method.Get part body =
    some_named (NamesModel part) (refusals.BadId 0) (λ id given. given ≡ Ask (asks.GetModel id)) (λ id names. some_is (Ask (asks.GetModel id)))
some_of_model laws method.Delete part body =
    some_named (NamesModel part) (refusals.BadId 0) (λ id given. given ≡ Ask (asks.DropModel id)) (λ id names. some_is (Ask (asks.DropModel id)))
some_of_model laws method.Patch part body =
    some_named (NamesModel part) (refusals.BadId 0) (λ id. WithBody body (Marks id))
    (λ id names. some_with_body laws body (Marks id) (λ v spelled. some_marks laws id v))
some_of_model laws method.Post part body = some_is (not_allowed route.Model)
some_of_model laws method.Put part body = some_is (not_allowed route.Model)

pub some_of_canon : (m : Method) → IsSome (AsksCanon m)
some_of_canon method.Get = some_is (Ask asks.Canon)
some_of_canon method.Delete = some_is (not_allowed route.Canon)
some_of_canon method.Patch = some_is (not_allowed route.Canon)
some_of_canon method.Post = some_is (not_allowed route.Canon)
some_of_canon method.Put = some_is (not_allowed route.Canon)

some_rows : Laws → (v : Json) → IsSome (AsksRows v)
some_rows laws v = map_there (λ (made : (outcome : AskOrRefusal) × IsMadeOfBody v outcome). (prepared_of made.0, (made.0, made.1, refl))) (laws.query v)

pub some_of_query : Laws → (m : Method) (body : List ℕ) → IsSome (AsksQuery m body)
some_of_query laws method.Post body = some_with_body laws body AsksRows (λ v spelled. some_rows laws v)
some_of_query laws method.Delete body = some_is (not_allowed route.Query)
some_of_query laws method.Get body = some_is (not_allowed route.Query)
some_of_query laws method.Patch body = some_is (not_allowed route.Query)
some_of_query laws method.Put body = some_is (not_allowed route.Query)
